use Rattle.tableau.proofs.Coding.{one_code}
use Rattle.tableau.proofs.numbers_of_atoms_differ.Goals as goal

pub returns : goal.returns
returns c = one_code
