use Rattle.tableau.proofs.Coding.{coded}
use Rattle.tableau.proofs.every_atom_has_a_number.Goals as goal

pub returns : goal.returns
returns c = coded
