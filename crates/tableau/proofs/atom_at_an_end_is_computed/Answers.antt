use Rattle.tableau.proofs.Reverses.{one_end}
use Rattle.tableau.proofs.atom_at_an_end_is_computed.Goals as goal

pub returns : goal.returns
returns c = one_end
