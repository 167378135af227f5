use Rattle.std.proofs.Common.{rules}
use Rattle.script.proofs.Cuts.{skip_one, by_one}
use Rattle.script.proofs.spacing.after_gap.Goals as goal

pub loop-rest-preserved : goal.loop-rest-preserved
loop-rest-preserved c = skip_one c.loop-rest.invariant (by_one c.loop-rest.rest.now 32 (search rules) (search rules))
