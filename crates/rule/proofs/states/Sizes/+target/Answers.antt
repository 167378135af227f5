use Rattle.std.proofs.Common.{◌≡◌, ◌+◌, ◌*◌, ◌%◌, ◌<◌, ◌≤◌, length, get_or, None, unwrap_or, sym, ap, ◌∙◌, arith, rules}
use Rattle.guarded.specs.Values.{number_of, after, values_of}
use Rattle.rule.proofs.Steps.{rest, whole, ranged_rest, target_fits}
use Rattle.rule.proofs.states.Sizes.+target.Goals as goal

pub target-requires : goal.target-requires
target-requires t c =
    let some : 0 < length c.args.sets.now = search rules in
    let long : length c.in-Some.others.sizes.now ≤ length (rest c.args.sets.now) = omega (arith, ap length (whole c.args.sets.now None some), ap length c.in-Some.ensures, c.requires.long) in
    (omega (arith, ap length c.in-Some.ensures), (long, ranged_rest c.args.self.sizes.now c.in-Some.size c.in-Some.others.sizes.now c.args.sets.now c.in-Some.ensures some c.requires.ranged))

all : {t : _} (c : goal.After-target t) → c.map_or-value.result + c.in-Some.size * c.target.result ≡ number_of c.args.self.sizes.now (after c.args.sets.now (values_of c.args.self.sizes.now c.args.state))
all {t} c =
    let some : 0 < length c.args.sets.now = search rules in
    let first : c.map_or-value.result ≡ unwrap_or (get_or c.args.sets.now 0 None) (c.args.state % c.in-Some.size) = search rules in
    (λ i. first i + c.in-Some.size * c.target.ensures i)
    ∙ sym (λ i. number_of (c.in-Some.ensures i) (after (whole c.args.sets.now None some i) (values_of (c.in-Some.ensures i) c.args.state)))

pub overflow_mul-result : goal.overflow_mul-result
overflow_mul-result t c =
    let sizes = c.args.self in
    omega (arith, all c, target_fits sizes.sizes.now c.args.sets.now c.args.state sizes.few sizes.sized c.requires.ranged)

pub overflow_add-result : goal.overflow_add-result
overflow_add-result t c =
    let sizes = c.args.self in
    omega (arith, all c, target_fits sizes.sizes.now c.args.sets.now c.args.state sizes.few sizes.sized c.requires.ranged)
