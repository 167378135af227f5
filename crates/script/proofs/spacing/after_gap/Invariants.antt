use Rattle.std.proofs.Common.{length}
use Rattle.script.proofs.Cuts.{Passed}
use Rattle.script.proofs.spacing.after_gap.Given as goal

abbrev pub invariant-loop-rest : goal.invariant-loop-rest
invariant-loop-rest l = Passed l.bytes l.rest

abbrev pub decreases-loop-rest : goal.decreases-loop-rest
decreases-loop-rest l = length l.rest
