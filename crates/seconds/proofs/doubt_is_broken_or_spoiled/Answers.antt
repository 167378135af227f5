use Rattle.seconds.proofs.Judged.{doubt_parts}
use Rattle.seconds.proofs.doubt_is_broken_or_spoiled.Goals as goal

pub returns : goal.returns
returns c = doubt_parts
