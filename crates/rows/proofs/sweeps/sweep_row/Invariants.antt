use Rattle.rows.proofs.Steps.{Swept}
use Rattle.rows.proofs.sweeps.sweep_row.Given as goal

abbrev pub invariant-loop-p : goal.invariant-loop-p
invariant-loop-p l = Swept l.initial.cells l.cells l.parts.first l.parts.last l.out l.m l.end l.p l.next
