use Rattle.seconds.proofs.Possibles.{letters}
use Rattle.seconds.proofs.possible_atoms_in_words.Goals as goal

pub returns : goal.returns
returns c = letters
