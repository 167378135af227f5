use Rattle.seconds.proofs.Searched.{spoiled_numbers}
use Rattle.seconds.proofs.spoiled_by_numbers.Goals as goal

pub returns : goal.returns
returns c = spoiled_numbers
