use Rattle.std.proofs.Common.{length}
use Rattle.rule.proofs.states.Sizes.+met.Given as goal

abbrev pub decreases-met : goal.decreases-met
decreases-met l = length l.self.sizes.now
