use Rattle.seconds.proofs.Possibles.{tests}
use Rattle.seconds.proofs.tests_decide_possible_atoms.Goals as goal

pub returns : goal.returns
returns c = tests
