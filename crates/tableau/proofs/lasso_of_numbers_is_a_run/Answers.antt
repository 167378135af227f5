use Rattle.tableau.proofs.Numbered.{numbers_run}
use Rattle.tableau.proofs.lasso_of_numbers_is_a_run.Goals as goal

pub returns : goal.returns
returns c = numbers_run
