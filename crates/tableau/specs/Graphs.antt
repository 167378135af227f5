-- Graphs: what leads on to a stuck node or to a fair round. Relies on Along for fairness alone.
use Rattle.std.specs.Prelude.{◌≡◌, ℕ, suc, ◌+◌, ◌<◌, true, ◌⊎◌}
use Rattle.formula.specs.Atoms.{Atom}
use Rattle.formula.specs.Ltl.{Ltl}
use Rattle.tableau.specs.Along.{untils, meets}

-- by edges from x to y, or x is y
pub data Onward (X : Type 0) (Edge : X → X → Type 0) (y : X) : X → Type 0 where
  here : Onward X Edge y y
  step : {x : X} (x' : X) → Edge x x' → Onward X Edge y x' → Onward X Edge y x

-- the nodes w go round with the period p
pub record Round (X : Type 0) (Edge : X → X → Type 0) (w : ℕ → X) (p : ℕ) : Type 0 where
  pub period : 0 < p
  pub again : (i : ℕ) → w (i + p) ≡ w i
  pub arcs : (i : ℕ) → Edge (w i) (w (suc i))

-- x leads to a stuck node, or to a round that is fair
abbrev pub Kept : (X : Type 0) → (X → X → Type 0) → (X → Type 0) → ((ℕ → X) → Type 0) → X → Type 0
Kept X Edge Stuck FairRound x =
    ((y : X) × Onward X Edge y x × Stuck y) ⊎ ((w : ℕ → X) × (p : ℕ) × Onward X Edge (w 0) x × Round X Edge w p × FairRound w)

-- each U is false or at its goal at some atom of the sequence
abbrev pub Met : (f : Ltl) → (ℕ → Atom f) → Type 0
Met f a = (j : ℕ) → j < untils f → (i : ℕ) × (meets f j (a i) ≡ true)
