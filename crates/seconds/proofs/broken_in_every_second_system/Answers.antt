use Rattle.seconds.proofs.Judged.{broken_in_all}
use Rattle.seconds.proofs.broken_in_every_second_system.Goals as goal

pub returns : goal.returns
returns c = broken_in_all
