use Rattle.std.proofs.Common.{sym, below_more}
use Rattle.rows.proofs.Bearing.{bears_here, bears_nowhere}
use Rattle.rows.proofs.cells.enabled.Goals as goal

pub loop-arc-preserved : goal.loop-arc-preserved
loop-arc-preserved c = below_more _ _ c.loop-arc.invariant c.if-arc-event.false

pub returns-then-arc-event : goal.returns-then-arc-event
returns-then-arc-event c = sym (bears_here c.args.event c.args.arcs.now c.loop-arc.arc-index c.loop-arc-test.true c.if-arc-event.true)

pub returns : goal.returns
returns c = sym (bears_nowhere c.args.event c.args.arcs.now (λ i lt e. c.loop-arc.invariant i (native.Mathlib.Nat.lt_of_lt_of_le lt c.loop-arc-test.false) e))
