use Rattle.std.proofs.Common.{◌≡◌, ◌<◌, refl, sym, ◌∙◌, arith, rules}
use Rattle.std.specs.Option.{option_map_or}
use Rattle.std.proofs.lemmas.Iterator.{YieldsList-from_range}
use Rattle.std.proofs.lemmas.Iterator.Adapters.{option_map_id}
use Rattle.std.proofs.lemmas.Iterator.Consumers.{YieldsList-at, YieldsList-from_filter, nth_from_yields_List}
use Rattle.plant.specs.Model.{past_arc}
use Rattle.guarded.specs.Values.{extent_of, values_of, meets}
use Rattle.guarded.specs.Made.{sizes_of, rule_count, needs_of}
use Rattle.rule.proofs.Picks.{arc_of_rule, arc_picked}
use Rattle.rule.proofs.questions.RulePlantPlant.arc.Goals as goal

pub returns : goal.returns
returns c =
    let p = c.args.self.now.parts in
    let vs = values_of (sizes_of p) c.args.state in
    let inside : c.args.state < extent_of (sizes_of p) = omega (arith, c.extent.ensures, c.from.ensures) in
    let picked = sym (option_map_id c.nth.result) ∙ nth_from_yields_List c.nth.result _ c.args.index c.nth.ensures.ran
    (YieldsList-from_filter _ (λ r. meets (needs_of p r) vs) (YieldsList-at c.filter.ensures.source (YieldsList-from_range 0 c.events.result (rule_count p) refl (omega (arith, c.events.ensures)))) c.filter.ensures.closure (λ x b q k. search rules)) in
    let is : c.map_or.result ≡ option_map_or (arc_of_rule p vs) c.nth.result past_arc = search rules in
    is ∙ arc_picked p c.args.state c.args.index past_arc c.nth.result inside picked
