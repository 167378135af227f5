use Rattle.seconds.proofs.Sampled.{nine}
use Rattle.seconds.proofs.sample_verdicts_are_right.Goals as goal

pub returns : goal.returns
returns c = nine
