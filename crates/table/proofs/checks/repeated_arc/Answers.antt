use Rattle.std.proofs.Common.{sym, rules, tests, arith}
use Rattle.meaning.specs.Systems.{no_arc}
use Rattle.table.specs.Words.{paired}
use Rattle.table.proofs.Paired.{length_paired, same_arcs, same_parts}
use Rattle.table.proofs.Repeats.{first_again}
use Rattle.table.proofs.checks.repeated_arc.Goals as goal

pub returns : goal.returns
returns c =
    let es = c.args.events.now in
    let ts = c.args.targets.now in
    first_again (paired es ts) no_arc (sym (length_paired es ts c.requires.parallel))
    (λ j k low lt says. same_arcs es ts c.requires.parallel j k (omega arith) lt (search (rules, tests)) (search (rules, tests)))
    (λ j k low lt says same. let parts = same_parts es ts c.requires.parallel j k (omega arith) lt same in search (rules, tests))
    c.first_again.ensures
