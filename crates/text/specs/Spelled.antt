-- What a reader has read. Inner contracts cite it, and no promise to a caller does. Assumes nothing.
use Rattle.std.specs.Prelude.{◌≡◌, ℕ, ◌+◌, ◌-◌, ◌<◌, ◌≤◌, ◌⊎◌, List, [], ◌∷◌, ◌++◌, length, drop}
use Rattle.draft.specs.declared.draft.Draft.{Draft}
use Rattle.draft.specs.Drafts.{Adds}
use Rattle.formula.specs.Table.{table}
use Rattle.grammar.specs.Machine.{Part, phrase, name_parts, outcome, not}
use Rattle.grammar.specs.Phrases.{Phrase, digits, closing, naming, write, mean, Within, strict}
use Rattle.grammar.specs.declared.Fault.{Fault}
use Rattle.grammar.specs.declared.Fault.TheVariants.{Byte, End, Number}
use Rattle.grammar.specs.declared.Name.{Name}
use Rattle.refusal.specs.Causes.{Gives}
use Rattle.refusal.specs.declared.Layer.TheVariants.{Text}
use Rattle.refusal.specs.declared.Refusal.{Refusal}
use Rattle.text.specs.declared.reader.Reader.{Reader}

-- what is left to read
abbrev pub left : Reader → List ℕ
left r = drop r.at r.text.now

-- the character c has been read
pub record Char (r r' : Reader) (c : ℕ) : Type 0 where
  pub text : left r ≡ c ∷ left r'
  pub next : r'.at ≡ r.at + 1

-- there is none
pub record Ended (r : Reader) (e : Fault) : Type 0 where
  pub none : left r ≡ []
  pub short : e ≡ End

-- what comes next, if anything does, is no digit
abbrev pub NoDigit : List ℕ → Type 0
NoDigit [] = Unit {0}
NoDigit (c ∷ s) = (c < 48) ⊎ (57 < c)

-- d is the digit that comes next
pub record Digit (s : List ℕ) (d : ℕ) : Type 0 where
  pub code : ℕ
  pub rest : List ℕ
  pub text : s ≡ code ∷ rest
  pub low : 48 ≤ code
  pub high : code ≤ 57
  pub is : d ≡ code - 48

-- the parts ys, which are s, have been read, and whatever is to follow them comes out as it would have
pub record Took (ys : List Part) (r r' : Reader) (s : List ℕ) : Type 0 where
  pub text : left r ≡ s ++ left r'
  pub less : length (left r') < length (left r)
  pub goes : (k : List Part) → outcome (ys ++ k) r.at (left r) ≡ outcome k r'.at (left r')

-- the parts ys cannot be read, whatever is to follow them
abbrev pub Failed : List Part → Reader → Fault → Type 0
Failed ys r e = (k : List Part) → outcome (ys ++ k) r.at (left r) ≡ not e

-- behind the byte that opens it, a name has been read, and its entry has been added
pub record Named (a : Name) (r r' : Reader) (had has : Draft) : Type 0 where
  pub number : ℕ
  pub below : number < strict a
  pub took : Took (name_parts a) r r' (digits number ++ closing a)
  pub drafted : Adds had has (table (naming a number))

-- a phrase has been read, and its entries have been added
pub record Written (r r' : Reader) (had has : Draft) : Type 0 where
  pub says : Phrase
  pub fine : Within strict says
  pub took : Took (phrase ∷ []) r r' (write says)
  pub drafted : Adds had has (table (mean says))

-- the refusal for a fault in a text of n bytes
abbrev pub Tells : Refusal → Fault → ℕ → Type 0
Tells r (Byte i) n = Gives r 22 Text i
Tells r End n = Gives r 23 Text n
Tells r (Number i) n = Gives r 24 Text i
