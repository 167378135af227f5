use Rattle.seconds.proofs.Closed.{second_part}
use Rattle.seconds.proofs.second_systems_by_graphs.Goals as goal

pub returns : goal.returns
returns c = second_part
