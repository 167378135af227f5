use Rattle.tableau.proofs.Lassoed.{run_part}
use Rattle.tableau.proofs.violating_run_is_a_lasso.Goals as goal

pub returns : goal.returns
returns c = run_part
