-- Tables of refusals: rows in an order, of which the first that applies is given. Relies on Causes.
use Rattle.std.specs.Prelude.{◌≡◌, ℕ, ◌<◌, ◌⊎◌, List, [], ◌∷◌}
use Rattle.refusal.specs.declared.Layer.{Layer}
use Rattle.refusal.specs.declared.Refusal.{Refusal}
use Rattle.refusal.specs.Causes.{Gives}

-- a row: its number, its layer, and at which place it applies to what was asked
pub record Row : Type 1 where
  pub number : ℕ
  pub layer : Layer
  pub applies : ℕ → Type 0

-- the row applies at no place
abbrev pub Unbroken : Row → Type 0
Unbroken row = (i : ℕ) → row.applies i → ⊥

-- no row applies: what was asked is granted
abbrev pub Clear : List Row → Type 0
Clear [] = Unit {0}
Clear (row ∷ rows) = Unbroken row × Clear rows

-- r is given by the first row that applies
abbrev pub First : List Row → Refusal → Type 0
First [] r = ⊥
First (row ∷ rows) r =
    ((i : ℕ) × row.applies i × Gives r row.number row.layer i) ⊎ (Unbroken row × First rows r)

-- i is the lowest number of which P holds
pub record Lowest (P : ℕ → Type 0) (i : ℕ) : Type 0 where
  pub here : P i
  pub none_below : (j : ℕ) → j < i → P j → ⊥

-- i is 0, the place of a row that names none, and P does not hold
abbrev pub Fails : Type 0 → ℕ → Type 0
Fails P i = (P → ⊥) × (i ≡ 0)
