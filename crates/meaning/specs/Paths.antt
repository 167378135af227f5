-- What a formula means on a path. Relies on Systems.
use Rattle.std.specs.Prelude.{◌≡◌, ℕ, suc, ◌<◌, ◌≤◌, ◌⊎◌}
use Rattle.formula.specs.Ltl.{Ltl, top, fact, enabled, taken, neg, or, next, until}
use Rattle.meaning.specs.Systems.{System, HasFact, Enables}

-- how long a path is: a number of states, or no end
pub data Len : Type 0 where
  endless : Len
  ends : ℕ → Len

-- position k is on a path of this length
abbrev pub Within : Len → ℕ → Type 0
Within endless k = Unit {0}
Within (ends n) k = k < n

-- a path: its states, and the event taken at each position that has a next one
pub record Path : Type 0 where
  pub state : ℕ → ℕ
  pub event : ℕ → ℕ
  pub len : Len

-- the formula holds at position i of the path
abbrev pub Holds : System → Path → ℕ → Ltl → Type 0
Holds M π i top = Unit {0}
Holds M π i (fact p) = HasFact M (π.state i) p
Holds M π i (enabled t) = Enables M (π.state i) t
Holds M π i (taken t) = Within π.len (suc i) × (π.event i ≡ t)
Holds M π i (neg f) = Holds M π i f → ⊥
Holds M π i (or f g) = Holds M π i f ⊎ Holds M π i g
Holds M π i (next f) = Within π.len (suc i) × Holds M π (suc i) f
Holds M π i (until f g) =
    (k : ℕ) × (i ≤ k) × Within π.len k × Holds M π k g × ((j : ℕ) → i ≤ j → j < k → Holds M π j f)
