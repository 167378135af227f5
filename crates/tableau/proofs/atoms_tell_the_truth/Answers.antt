use Rattle.tableau.proofs.Coheres.{coherence}
use Rattle.tableau.proofs.atoms_tell_the_truth.Goals as goal

pub returns : goal.returns
returns c = coherence
