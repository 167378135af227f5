use Rattle.seconds.proofs.Judged.{holds_else}
use Rattle.seconds.proofs.else_it_holds.Goals as goal

pub returns : goal.returns
returns c = holds_else
