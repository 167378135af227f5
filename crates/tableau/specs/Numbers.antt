-- The open part as a graph of numbers, whose edges a search computes backward. `OpenNumbers` ties it to Opens.
use Rattle.std.specs.Prelude.{◌≡◌, ℕ, ◌+◌, ◌-◌, ◌*◌, ◌/◌, ◌%◌, ◌^◌, ◌<◌, ◌≤◌, Bool, true, false, List, length, slice_index}
use Rattle.formula.specs.Atoms.{Atom, value, width, atom}
use Rattle.formula.specs.Ltl.{Ltl}
use Rattle.meaning.specs.Runs.{Run, places, state_at, event_at}
use Rattle.meaning.specs.Systems.{System, HasArc, Deadlock, Initial}
use Rattle.tableau.specs.Backward.{before, final}
use Rattle.tableau.specs.Graphs.{Kept, Met}
use Rattle.tableau.specs.Lassos.{FairLoop}

-- the list holds the open states, each once
pub record Lists (book : List ℕ) (opened : ℕ → Bool) : Type 0 where
  pub only : (i : ℕ) → i < length book → opened (slice_index book i) ≡ true
  pub all : (s : ℕ) → opened s ≡ true → (i : ℕ) × (i < length book) × (slice_index book i ≡ s)
  pub once : (i j : ℕ) → i < length book → j < length book → slice_index book i ≡ slice_index book j → i ≡ j

-- how many nodes there are: an atom's worth for each open state
abbrev pub nodes : List ℕ → Ltl → ℕ
nodes book f = length book * 2 ^ width f

-- the state of a node's number
abbrev pub state_of : List ℕ → Ltl → ℕ → ℕ
state_of book f v = slice_index book (v / 2 ^ width f)

-- and its atom
abbrev pub atom_of : (f : Ltl) → ℕ → Atom f
atom_of f v = atom f 0 (v % 2 ^ width f)

-- an arc bearing t leads from the state of node u to s, and the atom of u is the one before b
abbrev pub StepsTo : System → List ℕ → (f : Ltl) → ℕ → ℕ → Atom f → Type 0
StepsTo M book f u s b =
    (t : ℕ) × HasArc M (state_of book f u) t s × (atom_of f u ≡ before (M.facts (state_of book f u)) (M.arcs (state_of book f u)) t f b)

abbrev pub OpenNumberEdge : System → List ℕ → Ltl → ℕ → ℕ → Type 0
OpenNumberEdge M book f u v = (u < nodes book f) × (v < nodes book f) × StepsTo M book f u (state_of book f v) (atom_of f v)

-- a deadlock, with the one atom of its state where nothing is taken
abbrev pub OpenNumberStuck : System → List ℕ → Ltl → ℕ → Type 0
OpenNumberStuck M book f v =
    (v < nodes book f) × Deadlock M (state_of book f v) × (atom_of f v ≡ final (M.facts (state_of book f v)) (M.arcs (state_of book f v)) f)

-- an initial state, with an atom that makes the formula false
abbrev pub OpenNumberStart : System → List ℕ → Ltl → ℕ → Type 0
OpenNumberStart M book f v = (v < nodes book f) × Initial M (state_of book f v) × (value f (atom_of f v) ≡ false)

-- v leads to a stuck node, or to a round that meets every U
abbrev pub OpenNumberKept : System → List ℕ → Ltl → ℕ → Type 0
OpenNumberKept M book f = Kept ℕ (OpenNumberEdge M book f) (OpenNumberStuck M book f) (λ w. Met f (λ i. atom_of f (w i)))

-- some start leads there
abbrev pub OpenNumberDoubt : System → List ℕ → Ltl → Type 0
OpenNumberDoubt M book f = (v : ℕ) × OpenNumberStart M book f v × OpenNumberKept M book f v

-- from place i of the run an arc with its event leads to place k, and the node at i is the one before that at k
abbrev pub StepsAt : System → List ℕ → (f : Ltl) → Run → (ℕ → ℕ) → ℕ → ℕ → Type 0
StepsAt M book f r n i k =
    HasArc M (state_at r i) (event_at r i) (state_at r k)
    × (atom_of f (n i) ≡ before (M.facts (state_at r i)) (M.arcs (state_at r i)) (event_at r i) f (atom_of f (n k)))

-- node n i stands at place i of the run: each steps to the next along the run's event, the last one to that of the loop's first place, with each U met on the loop; or it is stuck
pub record NumberLasso (M : System) (book : List ℕ) (f : Ltl) (r : Run) (n : ℕ → ℕ) : Type 0 where
  pub some : 1 ≤ places r
  pub parallel : length r.events ≡ places r
  pub low : r.back ≤ places r
  pub numbers : (i : ℕ) → i < places r → n i < nodes book f
  pub states : (i : ℕ) → i < places r → state_at r i ≡ state_of book f (n i)
  pub steps : (i : ℕ) → i + 1 < places r → StepsAt M book f r n i (i + 1)
  pub turns : r.back < places r → StepsAt M book f r n (places r - 1) r.back × FairLoop f r.back (places r - 1) (λ i. atom_of f (n i))
  pub stops : r.back ≡ places r → OpenNumberStuck M book f (n (places r - 1)) × (event_at r (places r - 1) ≡ 64)
