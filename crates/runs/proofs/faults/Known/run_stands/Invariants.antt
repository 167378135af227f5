use Rattle.std.proofs.Common.{ℕ, ◌<◌}
use Rattle.rows.specs.Cells.{run_of}
use Rattle.runs.specs.Tests.{Bad}
use Rattle.runs.specs.Known.{opens, view}
use Rattle.runs.proofs.faults.Known.run_stands.Given as goal

abbrev pub invariant-loop-place : goal.invariant-loop-place
invariant-loop-place g l = (j : ℕ) → j < l.place → Bad (opens l.self.book.now) (view l.self.book.now (g.P.Plant.model l.self.plant.now)) (run_of l.run) j → ⊥
