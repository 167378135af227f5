use Rattle.tableau.proofs.Numbered.{open_numbers}
use Rattle.tableau.proofs.open_part_by_numbers.Goals as goal

pub returns : goal.returns
returns c = open_numbers
