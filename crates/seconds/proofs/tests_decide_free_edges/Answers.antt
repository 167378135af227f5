use Rattle.seconds.proofs.Freed.{free_edges}
use Rattle.seconds.proofs.tests_decide_free_edges.Goals as goal

pub returns : goal.returns
returns c = free_edges
