use Rattle.seconds.proofs.Searched.{broken_numbers}
use Rattle.seconds.proofs.broken_by_numbers.Goals as goal

pub returns : goal.returns
returns c = broken_numbers
