use Rattle.std.proofs.Common.{length, None}
use Rattle.replies.specs.Replies.{state_of}
use Rattle.replies.proofs.Writing.{Sofar}
use Rattle.replies.proofs.lines.run.Given as goal

abbrev pub invariant-loop-line : goal.invariant-loop-line
invariant-loop-line g l = Sofar l.words l.script l.rest (record { formula = None; plant = None }) (state_of l.console) (g.W.Write.contents l.initial.out) (g.W.Write.contents l.out)

abbrev pub decreases-loop-line : goal.decreases-loop-line
decreases-loop-line g l = length l.rest
