-- What a line of a script says. Relies on Words and Values.
use Rattle.std.specs.Prelude.{◌≡◌, ℕ, List, [], ◌∷◌, vec_items, codes}
use Rattle.std.specs.List.{Contains}
use Rattle.script.specs.declared.calls.ListWord.{ListWord}
use Rattle.script.specs.declared.calls.ListWord.TheVariants.{Formula, Table, Rule}
use Rattle.script.specs.declared.calls.AloneWord.{AloneWord}
use Rattle.script.specs.declared.calls.AloneWord.TheVariants.{Ask, Help}
use Rattle.script.specs.declared.calls.OneWord.{OneWord}
use Rattle.script.specs.declared.calls.OneWord.TheVariants.{Initial, Facts, Arcs}
use Rattle.script.specs.declared.calls.Word.{Word}
use Rattle.script.specs.declared.calls.Word.TheVariants.{List as ListOf, Text, Hex, Alone, One, Arc}
use Rattle.script.specs.declared.calls.Call.{Call}
use Rattle.script.specs.declared.calls.Call.TheVariants.{List as ListCall, Text as TextCall, Alone as AloneCall, One as OneCall, Arc as ArcCall}
use Rattle.script.specs.declared.calls.Line.{Line}
use Rattle.script.specs.declared.calls.Line.TheVariants.{Call as CallLine, Skip, What}
use Rattle.script.specs.Words.{Blank, Cut}
use Rattle.script.specs.Values.{Numbers, Pairs}

-- the bytes of a word
abbrev pub spelled_list : ListWord → List ℕ
spelled_list Formula = codes "formula"
spelled_list Table = codes "table"
spelled_list Rule = codes "rule"

abbrev pub spelled_alone : AloneWord → List ℕ
spelled_alone Ask = codes "ask"
spelled_alone Help = codes "help"

abbrev pub spelled_one : OneWord → List ℕ
spelled_one Initial = codes "initial"
spelled_one Facts = codes "facts"
spelled_one Arcs = codes "arcs"

abbrev pub spelled : Word → List ℕ
spelled (ListOf w) = spelled_list w
spelled Text = codes "text"
spelled Hex = codes "hex"
spelled (Alone w) = spelled_alone w
spelled (One w) = spelled_one w
spelled Arc = codes "arc"

-- a call by what it is given alone
pub data Meaning : Type 0 where
  list : ListWord → List ℕ → Meaning
  text : List ℕ → Meaning
  alone : AloneWord → Meaning
  one : OneWord → ℕ → Meaning
  arc : ℕ → ℕ → Meaning

-- what a call stands for
abbrev pub meaning : Call → Meaning
meaning (ListCall w words) = list w (vec_items words)
meaning (TextCall bytes) = text (vec_items bytes)
meaning (AloneCall w) = alone w
meaning (OneCall w n) = one w n
meaning (ArcCall s i) = arc s i

-- what a word says with the rest of its line
abbrev pub Given : Word → List ℕ → Meaning → Type 0
Given (ListOf w) rest m = (ns : List ℕ) × (m ≡ list w ns) × Numbers rest ns
Given Text rest m = m ≡ text rest
Given Hex rest m = (xs : List ℕ) × (m ≡ text xs) × Pairs rest xs
Given (Alone w) rest m = (m ≡ alone w) × Blank rest
Given (One w) rest m = (n : ℕ) × (m ≡ one w n) × Numbers rest (n ∷ [])
Given Arc rest m = (s i : ℕ) × (m ≡ arc s i) × Numbers rest (s ∷ i ∷ [])

-- the line is a call: one of the words that are known, and behind it what it is given
pub record Says (words : List Word) (line : List ℕ) (m : Meaning) : Type 0 where
  pub word : Word
  pub known : Contains words word
  pub rest : List ℕ
  pub cut : Cut 32 line (spelled word) rest
  pub given : Given word rest m

-- the line is empty, or a comment
abbrev pub Skipped : List ℕ → Type 0
Skipped [] = Unit {0}
Skipped (b ∷ bs) = b ≡ 35

-- what reading a line comes to
abbrev pub Reads : List Word → List ℕ → Line → Type 0
Reads words line (CallLine c) = Says words line (meaning c)
Reads words line Skip = Skipped line
Reads words line What = (Skipped line → ⊥) × ((m : Meaning) → Says words line m → ⊥)

-- a line says one call at most, and none where it is skipped
pub record Plain (words : List Word) (line : List ℕ) : Type 0 where
  pub once : (m n : Meaning) → Says words line m → Says words line n → m ≡ n
  pub apart : (m : Meaning) → Says words line m → Skipped line → ⊥
