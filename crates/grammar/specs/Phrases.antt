-- The phrases of formula text: how each is written, and what it stands for. Assumes nothing.
use Rattle.std.specs.Prelude.{◌≡◌, ℕ, ◌+◌, ◌/◌, ◌%◌, ◌<◌, cond, List, [], ◌∷◌, ◌++◌, nat_lt}
use Rattle.formula.specs.Ltl.{Ltl, top, fact, enabled, taken, neg, or, next, until}
use Rattle.grammar.specs.declared.Name.{Name}
use Rattle.grammar.specs.declared.Name.TheVariants.{Fact, Enabled, Taken}
use Rattle.grammar.specs.declared.Prefix.{Prefix}
use Rattle.grammar.specs.declared.Prefix.TheVariants.{Not, Next, Finally, Globally}
use Rattle.grammar.specs.declared.Joint.{Joint}
use Rattle.grammar.specs.declared.Joint.TheVariants.{Or, And, Implies, Until}

pub data Phrase : Type 0 where
  truth : Phrase
  named : Name → ℕ → Phrase
  prefixed : Prefix → Phrase → Phrase
  joined : Joint → Phrase → Phrase → Phrase

-- a number below 100 in base ten
abbrev pub digits : ℕ → List ℕ
digits n = cond (nat_lt n 10) ((48 + n) ∷ []) ((48 + n / 10) ∷ (48 + n % 10) ∷ [])

-- the byte before a number: p, e, [
abbrev pub opening : Name → ℕ
opening Fact = 112
opening Enabled = 101
opening Taken = 91

-- the byte behind it: ]
abbrev pub closing : Name → List ℕ
closing Fact = []
closing Enabled = []
closing Taken = 93 ∷ []

-- !, X, F, G
abbrev pub letter : Prefix → ℕ
letter Not = 33
letter Next = 88
letter Finally = 70
letter Globally = 71

-- |, &, >, U
abbrev pub sign : Joint → ℕ
sign Or = 124
sign And = 38
sign Implies = 62
sign Until = 85

-- how a phrase is written, byte by byte: T is 84, ( is 40 and ) is 41
abbrev pub write : Phrase → List ℕ
write truth = 84 ∷ []
write (named a n) = opening a ∷ digits n ++ closing a
write (prefixed x p) = letter x ∷ write p
write (joined j p q) = 40 ∷ write p ++ sign j ∷ write q ++ 41 ∷ []

abbrev pub naming : Name → ℕ → Ltl
naming Fact n = fact n
naming Enabled n = enabled n
naming Taken n = taken n

-- Ff is (TUf), and Gf is !(TU!f)
abbrev pub under : Prefix → Ltl → Ltl
under Not f = neg f
under Next f = next f
under Finally f = until top f
under Globally f = neg (until top (neg f))

-- (f&g) is !(!f|!g), and (f>g) is (!f|g)
abbrev pub join : Joint → Ltl → Ltl → Ltl
join Or f g = or f g
join And f g = neg (or (neg f) (neg g))
join Implies f g = or (neg f) g
join Until f g = until f g

-- the formula that a phrase stands for
abbrev pub mean : Phrase → Ltl
mean truth = top
mean (named a n) = naming a n
mean (prefixed x p) = under x (mean p)
mean (joined j p q) = join j (mean p) (mean q)

-- every number is below the limit for what it names
abbrev pub Within : (Name → ℕ) → Phrase → Type 0
Within l truth = Unit {0}
Within l (named a n) = n < l a
Within l (prefixed x p) = Within l p
Within l (joined j p q) = Within l p × Within l q

-- the facts and the events that there are
abbrev pub strict : Name → ℕ
strict Fact = 32
strict Enabled = 64
strict Taken = 64

-- whatever has two digits
abbrev pub loose : Name → ℕ
loose a = 100

-- s is a phrase within the limits
pub record Is (l : Name → ℕ) (s : List ℕ) : Type 0 where
  pub phrase : Phrase
  pub within : Within l phrase
  pub text : write phrase ≡ s

-- some phrase within the limits begins with s
pub record Begins (l : Name → ℕ) (s : List ℕ) : Type 0 where
  pub phrase : Phrase
  pub within : Within l phrase
  pub rest : List ℕ
  pub text : write phrase ≡ s ++ rest

-- a text has at most one reading
abbrev pub OneReading : Type 0
OneReading = (p q : Phrase) → Within loose p → Within loose q → write p ≡ write q → p ≡ q
