use Rattle.std.proofs.Common.{length}
use Rattle.rule.proofs.states.Sizes.+facts.Given as goal

abbrev pub decreases-facts : goal.decreases-facts
decreases-facts l = length l.self.sizes.now
