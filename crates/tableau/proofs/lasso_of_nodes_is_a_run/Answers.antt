use Rattle.tableau.proofs.Open.{reads_off}
use Rattle.tableau.proofs.lasso_of_nodes_is_a_run.Goals as goal

pub returns : goal.returns
returns c = reads_off
