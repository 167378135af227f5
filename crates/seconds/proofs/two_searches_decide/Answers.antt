use Rattle.seconds.proofs.Searched.{searches_decide}
use Rattle.seconds.proofs.two_searches_decide.Goals as goal

pub returns : goal.returns
returns c = searches_decide
