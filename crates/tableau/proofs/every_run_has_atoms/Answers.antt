use Rattle.tableau.proofs.Exists.{existence}
use Rattle.tableau.proofs.every_run_has_atoms.Goals as goal

pub returns : goal.returns
returns c = existence
