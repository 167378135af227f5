use Rattle.tableau.proofs.Reverses.{reverse}
use Rattle.tableau.proofs.atom_before_is_determined.Goals as goal

pub returns : goal.returns
returns c = reverse
