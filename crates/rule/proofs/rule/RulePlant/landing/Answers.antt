use Rattle.std.proofs.Common.{◌≤◌, length, sym, ap, ◌∙◌, subst}
use Rattle.guarded.specs.Values.{values_of, number_of, after, Ranged}
use Rattle.guarded.specs.Made.{sizes_of}
use Rattle.rule.proofs.Firsts.{sets_lead, sets_long, sets_ranged}
use Rattle.rule.proofs.rule.RulePlant.landing.Goals as goal

pub target-requires : goal.target-requires
target-requires c =
    let p = c.args.self.now in
    let x = c.index.result.now in
    record {
      long = subst (λ ns. length ns ≤ length x.sets) (sym c.sizes.ensures) (sets_long p.parts c.args.rule c.from.result x c.requires c.from.ensures c.index.ensures p.filled);
      ranged = subst (λ ns. Ranged ns x.sets) (sym c.sizes.ensures) (sets_ranged p.parts c.args.rule c.from.result x c.requires c.from.ensures c.index.ensures p.ranged);
    }

pub returns : goal.returns
returns c =
    let p = c.args.self.now.parts in
    let x = c.index.result.now in
    c.target.ensures
    ∙ ap (λ ns. number_of ns (after x.sets (values_of ns c.args.state))) c.sizes.ensures
    ∙ ap (number_of (sizes_of p)) (sets_lead p c.args.rule c.from.result x c.requires c.from.ensures c.index.ensures c.args.state)
