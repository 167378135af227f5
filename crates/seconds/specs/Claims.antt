-- What this crate proves. Relies on all other definitions.
use Rattle.std.specs.Prelude.{ℕ, ◌^◌, ◌<◌, ◌&&◌, ◌⊎◌, ◌↔◌, List, Decides}
use Rattle.formula.specs.Atoms.{Atom, width, atom}
use Rattle.formula.specs.Ltl.{Ltl}
use Rattle.meaning.specs.Runs.{Run, IsRun, Violates}
use Rattle.meaning.specs.Systems.{System}
use Rattle.tableau.specs.Numbers.{Lists, OpenNumberDoubt}
use Rattle.tableau.specs.Opens.{OverOpen}
use Rattle.seconds.specs.Free.{PossibleMove, PossibleEnd, FreeEdge, FreeKept, Continues, ClosedDoubt}
use Rattle.seconds.specs.Known.{Known, Second, Broken, Doubtful, Spoiled, Sound, Bounded}
use Rattle.seconds.specs.Letters.{MoveBits, SomeBits, EndBits}
use Rattle.seconds.specs.Numbers.{FreeNumberKept, ClosedNumberDoubt}
use Rattle.seconds.specs.Tests.{may_move, may_move_on, may_end, steps}
use Rattle.seconds.specs.Verdicts.{Verdict, broken, holds, incomplete, Right}

-- which atoms are possible: equal entries have equal bits; the event taken is one that there is, and enabled; some event is left to take; an end enables nothing
pub record Letters : Type 0 where
  pub move : (E : ℕ) (f : Ltl) (t : ℕ) (a : Atom f) → PossibleMove E f t a ↔ MoveBits E f t a
  pub some : (E : ℕ) (f : Ltl) (a : Atom f) → ((t : ℕ) × PossibleMove E f t a) ↔ SomeBits E f a
  pub stop : (f : Ltl) (a : Atom f) → PossibleEnd f a ↔ EndBits f a

-- which atoms are possible is decided by tests of their bits
pub record Tests : Type 0 where
  pub move : (E : ℕ) (f : Ltl) (t : ℕ) (a : Atom f) → Decides (may_move E f t a) (PossibleMove E f t a)
  pub some : (E : ℕ) (f : Ltl) (a : Atom f) → Decides (may_move_on E f a) ((t : ℕ) × PossibleMove E f t a)
  pub stop : (f : Ltl) (a : Atom f) → Decides (may_end f a) (PossibleEnd f a)

-- and so are the edges of the free part
abbrev pub FreeEdges : Type 0
FreeEdges = (E : ℕ) (f : Ltl) (a b : Atom f) → Decides (may_move_on E f a && steps f a b) (FreeEdge E f a b)

-- an atom is kept exactly where a free lasso goes out from it
abbrev pub FreePart : Type 0
FreePart = (E : ℕ) (f : Ltl) (z : Atom f) → Continues E f z ↔ FreeKept E f z

-- the same of its number, in the graph of numbers
abbrev pub FreeNumbers : Type 0
FreeNumbers = (E : ℕ) (f : Ltl) (v : ℕ) → v < 2 ^ width f → FreeKept E f (atom f 0 v) ↔ FreeNumberKept E f v

-- some second system has a violating run whose first closed state is c exactly where the two graphs say so
abbrev pub SecondPart : Type 0
SecondPart = (K : Known) → Sound K → (f : Ltl) (c : ℕ) → Spoiled K f c ↔ ClosedDoubt K f c

-- the plant's own system is one of the second systems, and what is known of it is sound
abbrev pub FirstIsSecond : Type 0
FirstIsSecond = (K : Known) → Bounded K → Second K K.system × Sound K

-- a violating run over open states alone is a violating run of every second system
abbrev pub BrokenInAll : Type 0
BrokenInAll = (K : Known) (f : Ltl) (r : Run) → IsRun K.system r → OverOpen K.opened r → Violates K.system r f → (N : System) → Second K N → IsRun N r × Violates N r f

-- some second system has a violating run exactly where the plant's system has one over open states alone, or some closed state is spoiled
abbrev pub DoubtParts : Type 0
DoubtParts = (K : Known) → Sound K → (f : Ltl) → Doubtful K f ↔ (Broken K f ⊎ ((c : ℕ) × Spoiled K f c))

-- no two of the three verdicts are right of a formula, and it cannot be that none is
pub record OneVerdict (K : Known) (f : Ltl) : Type 0 where
  pub broken_holds : (r : Run) → Right K f (broken r) → Right K f holds → ⊥
  pub broken_incomplete : (r : Run) (c : ℕ) → Right K f (broken r) → Right K f (incomplete c) → ⊥
  pub holds_incomplete : (c : ℕ) → Right K f holds → Right K f (incomplete c) → ⊥
  pub some : ((v : Verdict) → Right K f v → ⊥) → ⊥

-- so it is of all that is known soundly, and every formula
abbrev pub ExactlyOne : Type 0
ExactlyOne = (K : Known) → Sound K → (f : Ltl) → OneVerdict K f

-- the formula holds where it is not broken and nothing is spoiled
abbrev pub HoldsElse : Type 0
HoldsElse = (K : Known) (f : Ltl) → (Broken K f → ⊥) → ((c : ℕ) → Spoiled K f c → ⊥) → Right K f holds

-- a formula is broken exactly where the open part's graph of numbers says so
abbrev pub BrokenNumbers : Type 0
BrokenNumbers = (K : Known) (book : List ℕ) → Lists book K.opened → (f : Ltl) → Broken K f ↔ OpenNumberDoubt K.system book f

-- and a closed state is spoiled exactly where the two graphs of numbers say so
abbrev pub SpoiledNumbers : Type 0
SpoiledNumbers = (K : Known) → Sound K → (book : List ℕ) → Lists book K.opened → (f : Ltl) (c : ℕ) → Spoiled K f c ↔ ClosedNumberDoubt K book f c

-- it is so, or it is not
abbrev pub Settled : Type 0 → Type 0
Settled A = A ⊎ (A → ⊥)

-- what the two searches answer, yes or no, gives a verdict that is right
abbrev pub SearchesDecide : Type 0
SearchesDecide = (K : Known) → Sound K → (book : List ℕ) → Lists book K.opened → (f : Ltl) → Settled (OpenNumberDoubt K.system book f) → Settled ((c : ℕ) × ClosedNumberDoubt K book f c) → (v : Verdict) × Right K f v
