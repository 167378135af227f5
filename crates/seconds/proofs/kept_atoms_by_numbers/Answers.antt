use Rattle.seconds.proofs.Numbering.{free_numbers}
use Rattle.seconds.proofs.kept_atoms_by_numbers.Goals as goal

pub returns : goal.returns
returns c = free_numbers
