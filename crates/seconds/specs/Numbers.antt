-- The free part as a graph of numbers, and where it meets that of the open part. `FreeNumbers`, `BrokenNumbers` and `SpoiledNumbers` tie them to the verdicts.
use Rattle.std.specs.Prelude.{◌≡◌, ℕ, ◌^◌, ◌<◌, true, false, ◌&&◌, ◌⊎◌, List}
use Rattle.formula.specs.Atoms.{value, width, atom}
use Rattle.formula.specs.Ltl.{Ltl}
use Rattle.meaning.specs.Systems.{Initial}
use Rattle.tableau.specs.Graphs.{Onward, Kept, Met}
use Rattle.tableau.specs.Numbers.{nodes, StepsTo, OpenNumberEdge, OpenNumberStart}
use Rattle.seconds.specs.Known.{Known}
use Rattle.seconds.specs.Tests.{may_move_on, may_end, steps}

-- an edge of the free part, by tests
abbrev pub FreeNumberEdge : ℕ → Ltl → ℕ → ℕ → Type 0
FreeNumberEdge E f u v = (u < 2 ^ width f) × (v < 2 ^ width f) × ((may_move_on E f (atom f 0 u) && steps f (atom f 0 u) (atom f 0 v)) ≡ true)

-- an end of the free part, by a test
abbrev pub FreeNumberEnd : Ltl → ℕ → Type 0
FreeNumberEnd f v = (v < 2 ^ width f) × (may_end f (atom f 0 v) ≡ true)

-- from the number v by tested edges to a tested end, or to a round that meets every U
abbrev pub FreeNumberKept : ℕ → Ltl → ℕ → Type 0
FreeNumberKept E f = Kept ℕ (FreeNumberEdge E f) (FreeNumberEnd f) (λ w. Met f (λ i. atom f 0 (w i)))

-- the closed state c is initial, with a kept atom that makes the formula false; or a start leads to a node of the open part that steps to c with a kept atom
abbrev pub ClosedNumberDoubt : Known → List ℕ → Ltl → ℕ → Type 0
ClosedNumberDoubt K book f c =
    (K.opened c ≡ false)
    × ((z : ℕ) × (z < 2 ^ width f) × FreeNumberKept K.events f z
    × ((Initial K.system c × (value f (atom f 0 z) ≡ false))
    ⊎ ((u v : ℕ) × OpenNumberStart K.system book f u × Onward ℕ (OpenNumberEdge K.system book f) v u
    × (v < nodes book f) × StepsTo K.system book f v c (atom f 0 z))))
