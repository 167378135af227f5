-- The free part: what may happen behind a closed state, where nothing is known but the number of events, and how the open part leads to it. Relies on Known, and on tableau's atoms and graphs.
use Rattle.std.specs.Prelude.{◌≡◌, ℕ, suc, ◌+◌, ◌^◌, ◌<◌, ◌≤◌, true, false, ◌⊎◌, List, [], ◌==◌}
use Rattle.formula.specs.Atoms.{Atom, value}
use Rattle.formula.specs.Ltl.{Ltl, top, fact, enabled, taken, neg, or, next, until}
use Rattle.meaning.specs.Systems.{HasArc, Initial}
use Rattle.meaning.specs.Truth.{bears}
use Rattle.meaning.specs.declared.Arc.{Arc}
use Rattle.tableau.specs.Along.{Fits, Follows, Ends}
use Rattle.tableau.specs.Graphs.{Onward, Kept, Met}
use Rattle.tableau.specs.Lassos.{FairLoop}
use Rattle.tableau.specs.Opens.{OpenNode, OpenEdge, OpenStart}
use Rattle.seconds.specs.Known.{Known}

-- the [t] bits are those of a place where t is taken
abbrev pub Takes : (f : Ltl) → ℕ → Atom f → Type 0
Takes top t a = Unit {0}
Takes (fact p) t a = Unit {0}
Takes (enabled u) t a = Unit {0}
Takes (taken u) t a = a ≡ (t == u)
Takes (neg f) t a = Takes f t a
Takes (or f g) t a = Takes f t a.0 × Takes g t a.1
Takes (next f) t a = Takes f t a.1
Takes (until f g) t a = Takes f t a.1 × Takes g t a.2

-- the arcs bear events below E alone
abbrev pub Below : ℕ → List Arc → Type 0
Below E xs = (u : ℕ) → bears u xs ≡ true → u < E

-- some facts, and some arcs with events below E and t among them, give the bits of a place where t is taken
abbrev pub PossibleMove : ℕ → (f : Ltl) → ℕ → Atom f → Type 0
PossibleMove E f t a =
    (w : ℕ) × (xs : List Arc) × (w < 2 ^ 32) × Below E xs × (bears t xs ≡ true) × Fits w xs f a × Takes f t a

-- some facts and no arcs give the bits of a place where nothing is taken
abbrev pub PossibleEnd : (f : Ltl) → Atom f → Type 0
PossibleEnd f a = (w : ℕ) × (w < 2 ^ 32) × Fits w [] f a × Ends f a

-- the free part's nodes are atoms; an edge takes some event that is possible
abbrev pub FreeEdge : ℕ → (f : Ltl) → Atom f → Atom f → Type 0
FreeEdge E f a b = (t : ℕ) × PossibleMove E f t a × Follows f t a b

-- a leads to a possible end, or to a round that meets every U
abbrev pub FreeKept : ℕ → (f : Ltl) → Atom f → Type 0
FreeKept E f = Kept (Atom f) (FreeEdge E f) (PossibleEnd f) (Met f)

-- possible atoms at the places 0 to m, with events: from the last one back to place b, with each U met from there on; or, with b = m + 1, an end
pub record FreeLasso (E : ℕ) (f : Ltl) (m b : ℕ) (a : ℕ → Atom f) (t : ℕ → ℕ) : Type 0 where
  pub low : b ≤ m + 1
  pub moves : (i : ℕ) → i < m → PossibleMove E f (t i) (a i) × Follows f (t i) (a i) (a (suc i))
  pub loops : b ≤ m → PossibleMove E f (t m) (a m) × Follows f (t m) (a m) (a b) × FairLoop f b m a
  pub stops : b ≡ m + 1 → PossibleEnd f (a m)

-- a free lasso goes out from z
abbrev pub Continues : ℕ → (f : Ltl) → Atom f → Type 0
Continues E f z = (m b : ℕ) × (a : ℕ → Atom f) × (t : ℕ → ℕ) × (a 0 ≡ z) × FreeLasso E f m b a t

-- the closed state c is initial, with a kept atom that makes the formula false; or a start leads to an open node with an arc to c, along which a kept atom follows
abbrev pub ClosedDoubt : Known → Ltl → ℕ → Type 0
ClosedDoubt K f c =
    (K.opened c ≡ false)
    × ((z : Atom f) × FreeKept K.events f z
    × ((Initial K.system c × (value f z ≡ false))
    ⊎ ((x y : ℕ × Atom f) × OpenStart K.system K.opened f x
    × Onward (ℕ × Atom f) (OpenEdge K.system K.opened f) y x × OpenNode K.system K.opened f y
    × ((t : ℕ) × HasArc K.system y.0 t c × Follows f t y.1 z))))
