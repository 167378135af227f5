-- The open part: runs over open states, and the graph of open states with atoms. Relies on Along, Lassos and Graphs.
use Rattle.std.specs.Prelude.{◌≡◌, ℕ, suc, ◌+◌, ◌<◌, ◌≤◌, Bool, true, false}
use Rattle.formula.specs.Atoms.{Atom, value}
use Rattle.formula.specs.Ltl.{Ltl}
use Rattle.meaning.specs.Runs.{Run, places, state_at, IsRun, Violates}
use Rattle.meaning.specs.Systems.{System, HasArc, Deadlock, Initial}
use Rattle.tableau.specs.Along.{Fits, Follows, Ends}
use Rattle.tableau.specs.Graphs.{Kept, Met}
use Rattle.tableau.specs.Lassos.{FairLoop}

-- the run is over open states alone
abbrev pub OverOpen : (ℕ → Bool) → Run → Type 0
OverOpen opened r = (i : ℕ) → i < places r → opened (state_at r i) ≡ true

-- some run over open states alone violates the formula
abbrev pub OpenViolated : System → (ℕ → Bool) → Ltl → Type 0
OpenViolated M opened f = (r : Run) × IsRun M r × OverOpen opened r × Violates M r f

-- a node: an open state, with an atom that fits it
abbrev pub OpenNode : System → (ℕ → Bool) → (f : Ltl) → ℕ × Atom f → Type 0
OpenNode M opened f x = (opened x.0 ≡ true) × Fits (M.facts x.0) (M.arcs x.0) f x.1

-- an edge: an arc between the states, along which the atom of the one is followed by that of the other
abbrev pub OpenEdge : System → (ℕ → Bool) → (f : Ltl) → ℕ × Atom f → ℕ × Atom f → Type 0
OpenEdge M opened f x y =
    OpenNode M opened f x × OpenNode M opened f y × ((t : ℕ) × HasArc M x.0 t y.0 × Follows f t x.1 y.1)

-- a stuck node: a deadlock, with an atom that ends
abbrev pub OpenStuck : System → (ℕ → Bool) → (f : Ltl) → ℕ × Atom f → Type 0
OpenStuck M opened f x = OpenNode M opened f x × Deadlock M x.0 × Ends f x.1

-- x leads to a stuck node, or to a round that meets every U
abbrev pub OpenKept : System → (ℕ → Bool) → (f : Ltl) → ℕ × Atom f → Type 0
OpenKept M opened f = Kept (ℕ × Atom f) (OpenEdge M opened f) (OpenStuck M opened f) (λ w. Met f (λ i. (w i).1))

-- a start: an initial open state, with an atom that fits it and makes the formula false
abbrev pub OpenStart : System → (ℕ → Bool) → (f : Ltl) → ℕ × Atom f → Type 0
OpenStart M opened f x = OpenNode M opened f x × Initial M x.0 × (value f x.1 ≡ false)

-- some start leads to a stuck node, or to a round that meets every U
abbrev pub OpenDoubt : System → (ℕ → Bool) → Ltl → Type 0
OpenDoubt M opened f = (x : ℕ × Atom f) × OpenStart M opened f x × OpenKept M opened f x

-- nodes at the places 0 to m, each with an edge to the next: from the last one back to place b, with each U met from there on; or, with b = m + 1, it is stuck
pub record NodeLasso (M : System) (opened : ℕ → Bool) (f : Ltl) (m b : ℕ) (x : ℕ → ℕ × Atom f) : Type 0 where
  pub edges : (i : ℕ) → i < m → OpenEdge M opened f (x i) (x (suc i))
  pub low : b ≤ m + 1
  pub turns : b ≤ m → OpenEdge M opened f (x m) (x b) × FairLoop f b m (λ i. (x i).1)
  pub stops : b ≡ m + 1 → OpenStuck M opened f (x m)

-- a run that stands at the states of these nodes, place by place
pub record ReadsOff (f : Ltl) (m b : ℕ) (x : ℕ → ℕ × Atom f) (r : Run) : Type 0 where
  pub size : places r ≡ m + 1
  pub back : r.back ≡ b
  pub states : (i : ℕ) → i ≤ m → state_at r i ≡ (x i).0
