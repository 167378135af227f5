use Rattle.meaning.proofs.Right.{decided}
use Rattle.meaning.proofs.test_decides.Goals as goal

pub returns : goal.returns
returns c = decided
