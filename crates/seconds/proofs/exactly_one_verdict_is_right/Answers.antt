use Rattle.seconds.proofs.Judged.{exactly_one}
use Rattle.seconds.proofs.exactly_one_verdict_is_right.Goals as goal

pub returns : goal.returns
returns c = exactly_one
