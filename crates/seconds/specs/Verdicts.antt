-- The three verdicts on a formula, and when each is right. Relies on Known.
use Rattle.std.specs.Prelude.{ℕ}
use Rattle.formula.specs.Ltl.{Ltl}
use Rattle.meaning.specs.Runs.{Run, IsRun, Satisfies, Violates}
use Rattle.meaning.specs.Systems.{System}
use Rattle.tableau.specs.Opens.{OverOpen}
use Rattle.seconds.specs.Known.{Known, Second, Broken, Spoiled}

-- a run breaks the formula, it holds, or what is known is incomplete at a closed state
pub data Verdict : Type 0 where
  broken : Run → Verdict
  holds : Verdict
  incomplete : ℕ → Verdict

-- it is right: the run violates over open states alone; or every run of every second system satisfies the formula; or it is not broken, and the state is spoiled
abbrev pub Right : Known → Ltl → Verdict → Type 0
Right K f (broken r) = IsRun K.system r × OverOpen K.opened r × Violates K.system r f
Right K f holds = (N : System) → Second K N → (r : Run) → IsRun N r → Satisfies N r f
Right K f (incomplete c) = (Broken K f → ⊥) × Spoiled K f c
