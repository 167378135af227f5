-- Which texts are granted, with which table, and which are refused. Assumes nothing.
use Rattle.std.specs.Prelude.{◌≡◌, ℕ, ◌+◌, ◌-◌, ◌*◌, ◌<◌, ◌≤◌, List, length, take, slice_index, slice_index_or}
use Rattle.refusal.specs.Causes.{Gives}
use Rattle.refusal.specs.declared.Layer.TheVariants.{Text}
use Rattle.refusal.specs.declared.Refusal.{Refusal}
use Rattle.formula.specs.Table.{table, weight}
use Rattle.formula.specs.declared.entry.Entry.{Entry}
use Rattle.grammar.specs.Phrases.{opening, mean, strict, loose, Is, Begins}
use Rattle.grammar.specs.declared.Name.{Name}

-- 1 to 256 bytes
abbrev pub Sized : List ℕ → Type 0
Sized xs = (0 < length xs) × (length xs ≤ 256)

-- at most 48 entries, of which at most ten are elementary
abbrev pub Small : List Entry → Type 0
Small es = (length es ≤ 48) × (weight es ≤ 10)

-- the text xs is granted, with the table es
pub record Granted (xs : List ℕ) (es : List Entry) : Type 0 where
  pub sized : Sized xs
  pub says : Is strict xs
  pub table_is : table (mean says.phrase) ≡ es
  pub small : Small es

-- the text xs is refused
pub data Refused (xs : List ℕ) (r : Refusal) : Type 0 where
  -- it is empty or too long
  by_length : (Sized xs → ⊥) → Gives r 21 Text 0 → Refused xs r
  -- some phrase begins with what stands before byte i, and none with byte i besides, whatever its numbers
  by_byte : Sized xs → (i : ℕ) → i < length xs → Begins strict (take i xs) → (Begins loose (take (i + 1) xs) → ⊥) → Gives r 22 Text i → Refused xs r
  -- some phrase begins with it, and it is none
  by_end : Sized xs → Begins strict xs → (Is strict xs → ⊥) → Gives r 23 Text (length xs) → Refused xs r
  -- byte i is a number's first digit: some phrase begins with the text up to it, and with the next byte only phrases whose numbers are out of range
  by_range : Sized xs → (i : ℕ) → i + 1 < length xs → Begins strict (take (i + 1) xs) → Begins loose (take (i + 2) xs) → (Begins strict (take (i + 2) xs) → ⊥) → Gives r 24 Text i → Refused xs r
  -- it is a phrase whose table is too large
  by_table : Sized xs → (s : Is strict xs) → (Small (table (mean s.phrase)) → ⊥) → Gives r 25 Text 0 → Refused xs r

-- at place i a number of two digits begins that is out of range for the byte before it
pub record OutAt (xs : List ℕ) (i : ℕ) : Type 0 where
  pub name : Name
  pub after : 1 ≤ i
  pub opens : slice_index_or xs (i - 1) 0 ≡ opening name
  pub tens : (49 ≤ slice_index xs i) × (slice_index xs i ≤ 57)
  pub ones : (48 ≤ slice_index xs (i + 1)) × (slice_index xs (i + 1) ≤ 57)
  pub out : strict name ≤ (slice_index xs i - 48) * 10 + (slice_index xs (i + 1) - 48)

-- what is refused as out of range has such a number there
abbrev pub NumberThere : Type 0
NumberThere = (xs : List ℕ) (i : ℕ) (r : Refusal) → Gives r 24 Text i → Refused xs r → OutAt xs i
