use Rattle.tableau.proofs.Reverses.{backward}
use Rattle.tableau.proofs.atom_before_is_computed.Goals as goal

pub returns : goal.returns
returns c = backward
