use Rattle.std.proofs.Common.{ap, arith}
use Rattle.table.specs.Words.{largest}
use Rattle.table.proofs.Laws.{narrow}
use Rattle.table.proofs.States.{all_low}
use Rattle.table.proofs.sections.Sections.read.Goals as goal

pub overflow_cast-result-2 : goal.overflow_cast-result-2
overflow_cast-result-2 c = omega (arith, c.most.ensures, ap largest c.args.self.now.by_counts, narrow c.requires)

pub arcs-requires : goal.arcs-requires
arcs-requires c = all_low c.args.self.now c.requires.ranged
