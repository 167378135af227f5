use Rattle.rows.specs.Cells.{run_of}
use Rattle.rows.proofs.Turns.{Filled}
use Rattle.rows.proofs.run.Run.row.Given as goal

abbrev pub invariant-loop-p : goal.invariant-loop-p
invariant-loop-p g l = Filled (g.S.States.system l.states) (run_of l.self) l.e l.initial.cells l.cells l.parts.first l.parts.last l.out l.p
