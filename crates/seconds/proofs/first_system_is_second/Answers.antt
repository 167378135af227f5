use Rattle.seconds.proofs.Judged.{first_is_second}
use Rattle.seconds.proofs.first_system_is_second.Goals as goal

pub returns : goal.returns
returns c = first_is_second
