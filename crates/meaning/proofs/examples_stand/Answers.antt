use Rattle.meaning.proofs.Examples.{twelve}
use Rattle.meaning.proofs.examples_stand.Goals as goal

pub returns : goal.returns
returns c = twelve
