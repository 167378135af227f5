use Rattle.std.proofs.Common.{refl, rules, tests}
use Rattle.table.proofs.Repeats.{first_again}
use Rattle.table.proofs.checks.repeated_state.Goals as goal

pub returns : goal.returns
returns c =
    first_again c.args.states.now 0 refl (λ j k low lt says. search (rules, tests)) (λ j k low lt says same. search (rules, tests)) c.first_again.ensures
