-- Formulas as words: a count n, then n kinds, then n arguments. Assumes nothing.
use Rattle.std.specs.Prelude.{◌≡◌, ℕ, ◌+◌, ◌*◌, ◌<◌, ◌≤◌, true, List, length, take, slice_index, slice_index_or}
use Rattle.refusal.specs.Causes.{Gives}
use Rattle.refusal.specs.declared.Layer.TheVariants.{Formula}
use Rattle.refusal.specs.declared.Refusal.{Refusal}
use Rattle.formula.specs.Ltl.{Ltl}
use Rattle.formula.specs.Table.{table, tables, arity, ranged, weight}
use Rattle.formula.specs.declared.entry.Entry.{Entry}
use Rattle.formula.specs.declared.entry.Entry.TheVariants.{True, Fact, Enabled, Taken, Not, Or, Next, Until}

-- the word for an entry's kind
abbrev pub kind_of : Entry → ℕ
kind_of True = 1
kind_of (Fact p) = 2
kind_of (Enabled t) = 3
kind_of (Taken t) = 4
kind_of Not = 5
kind_of Or = 6
kind_of Next = 7
kind_of Until = 8

-- the word for its argument
abbrev pub argument_of : Entry → ℕ
argument_of True = 0
argument_of (Fact p) = p
argument_of (Enabled t) = t
argument_of (Taken t) = t
argument_of Not = 0
argument_of Or = 0
argument_of Next = 0
argument_of Until = 0

-- a kind and an argument spell an entry, whose argument is in range
pub record Spells (kind argument : ℕ) (e : Entry) : Type 0 where
  pub by_kind : kind ≡ kind_of e
  pub by_argument : argument ≡ argument_of e
  pub within_range : ranged e ≡ true

-- the number of entries
abbrev pub count : List ℕ → ℕ
count ws = slice_index ws 0

-- that number is 1 to 48, and the words are as many as it says
pub record Counted (ws : List ℕ) : Type 0 where
  pub low : 1 ≤ count ws
  pub high : count ws ≤ 48
  pub long : length ws ≡ 2 * count ws + 1

-- entry i of the words is e
abbrev pub Says : List ℕ → ℕ → Entry → Type 0
Says ws i e = Spells (slice_index ws (1 + i)) (slice_index ws (1 + count ws + i)) e

-- the words say the entries es
pub record Lists (ws : List ℕ) (es : List Entry) : Type 0 where
  pub long : length es ≡ count ws
  pub each : (i : ℕ) → i < count ws → Says ws i (slice_index_or es i True)

-- i is the lowest entry of which the words say none
pub record Unspelled (ws : List ℕ) (i : ℕ) : Type 0 where
  pub within : i < count ws
  pub none : (e : Entry) → Says ws i e → ⊥
  pub before : (j : ℕ) → j < i → (e : Entry) × Says ws j e

-- entry i lacks a part: the formulas before it, side by side, are fewer than it takes
pub record Lacks (es : List Entry) (i : ℕ) : Type 0 where
  pub within : i < length es
  pub before : List Ltl
  pub side_by_side : tables before ≡ take i es
  pub fewer : length before < arity (slice_index_or es i True)

-- the entries are formulas side by side, and not one
pub record Several (es : List Entry) : Type 0 where
  pub all : List Ltl
  pub side_by_side : tables all ≡ es
  pub not_one : length all ≡ 1 → ⊥

-- the entries are one formula, with at most ten elementary entries
pub record Formed (es : List Entry) : Type 0 where
  pub tree : Ltl
  pub whole : table tree ≡ es
  pub few : weight es ≤ 10

-- the words are granted, with the entries es
pub record Granted (ws : List ℕ) (es : List Entry) : Type 0 where
  pub counted : Counted ws
  pub lists : Lists ws es
  pub formed : Formed es

-- the words are refused, by the first rule that they break
pub data Refused (ws : List ℕ) (r : Refusal) : Type 0 where
  -- no words, a count that is not 1 to 48, or a wrong length
  by_length : (Counted ws → ⊥) → Gives r 11 Formula 0 → Refused ws r
  -- a kind that is unknown or an argument out of range
  by_entry : Counted ws → (i : ℕ) → Unspelled ws i → Gives r 12 Formula i → Refused ws r
  -- an operator without its parts
  by_parts : Counted ws → (es : List Entry) → Lists ws es → (i : ℕ) → Lacks es i → Gives r 13 Formula i → Refused ws r
  -- more than one formula
  by_number : Counted ws → (es : List Entry) → Lists ws es → Several es → Gives r 13 Formula (length es) → Refused ws r
  -- too many elementary entries
  by_weight : Counted ws → (es : List Entry) → Lists ws es → (f : Ltl) → table f ≡ es → 10 < weight es → Gives r 14 Formula 0 → Refused ws r

-- a formula's table has one formula
abbrev pub OneTree : Type 0
OneTree = (f g : Ltl) → table f ≡ table g → f ≡ g
