use Rattle.seconds.proofs.Freed.{free_part}
use Rattle.seconds.proofs.kept_atoms_continue.Goals as goal

pub returns : goal.returns
returns c = free_part
