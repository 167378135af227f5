use Rattle.std.proofs.Common.{◌≡◌, ◌*◌, sym, ap, ◌∙◌, arith}
use Rattle.guarded.specs.Values.{extent_of}
use Rattle.rule.proofs.Steps.{extent_fits}
use Rattle.rule.proofs.states.Sizes.+extent.Goals as goal

pub overflow_mul-result : goal.overflow_mul-result
overflow_mul-result t c =
    let sizes = c.args.self in
    let all : c.in-Some.size * c.extent.result ≡ extent_of sizes.sizes.now = ap (λ n. c.in-Some.size * n) c.extent.ensures ∙ sym (ap extent_of c.in-Some.ensures) in
    omega (arith, all, ap (λ n. n * c.extent.result) c.from.ensures, extent_fits sizes.sizes.now sizes.few sizes.sized)
