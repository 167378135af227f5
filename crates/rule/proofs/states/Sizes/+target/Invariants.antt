use Rattle.std.proofs.Common.{length}
use Rattle.rule.proofs.states.Sizes.+target.Given as goal

abbrev pub decreases-target : goal.decreases-target
decreases-target l = length l.self.sizes.now
