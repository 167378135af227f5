use Rattle.std.proofs.Common.{◌≡◌, ◌<◌, length, refl, sym, ap, ◌∙◌, arith, rules}
use Rattle.std.proofs.lemmas.List.{length-map}
use Rattle.std.proofs.lemmas.Iterator.{YieldsList-from_range}
use Rattle.std.proofs.lemmas.Iterator.Consumers.{YieldsList-at, YieldsList-from_filter, count_from_yields_List}
use Rattle.guarded.specs.Values.{extent_of, values_of, meets}
use Rattle.guarded.specs.Made.{sizes_of, rule_count, needs_of, model_of}
use Rattle.rule.proofs.Picks.{met_rules, arc_of_rule, arcs_listed}
use Rattle.rule.proofs.questions.RulePlantPlant.arc_count.Goals as goal

pub returns : goal.returns
returns c =
    let p = c.args.self.now.parts in
    let vs = values_of (sizes_of p) c.args.state in
    let inside : c.args.state < extent_of (sizes_of p) = omega (arith, c.extent.ensures, c.from.ensures) in
    let counted : c.count.result ≡ length ((model_of p).system.arcs c.args.state) =
    count_from_yields_List c.filter.result c.count.result c.count.ensures.ran
    (YieldsList-from_filter _ (λ r. meets (needs_of p r) vs) (YieldsList-at c.filter.ensures.source (YieldsList-from_range 0 c.events.result (rule_count p) refl (omega (arith, c.events.ensures)))) c.filter.ensures.closure (λ x b q k. search rules))
    ∙ sym (ap length (arcs_listed p c.args.state inside) ∙ length-map (met_rules p vs) (arc_of_rule p vs))
    in
    omega (arith, counted)
