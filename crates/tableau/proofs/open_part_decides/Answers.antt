use Rattle.tableau.proofs.Open.{open_part}
use Rattle.tableau.proofs.open_part_decides.Goals as goal

pub returns : goal.returns
returns c = open_part
