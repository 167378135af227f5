use Rattle.std.proofs.Common.{length}
use Rattle.rule.proofs.states.Sizes.+extent.Given as goal

abbrev pub decreases-extent : goal.decreases-extent
decreases-extent l = length l.self.sizes.now
