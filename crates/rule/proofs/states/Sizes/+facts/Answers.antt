use Rattle.std.proofs.Common.{◌/◌, arith}
use Rattle.rule.proofs.Steps.{facts_fit}
use Rattle.rule.proofs.states.Sizes.+facts.Goals as goal

pub overflow_mul-rest : goal.overflow_mul-rest
overflow_mul-rest t c = omega (arith, c.facts-rest.ensures, facts_fit c.in-Some.others.sizes.now (c.args.state / c.in-Some.size) c.in-Some.others.few)

pub overflow_add-result : goal.overflow_add-result
overflow_add-result t c = omega (arith, c.facts-rest.ensures, facts_fit c.in-Some.others.sizes.now (c.args.state / c.in-Some.size) c.in-Some.others.few)
