use Rattle.std.proofs.Common.{ap, ◌∙◌}
use Rattle.guarded.specs.Values.{values_of, meets}
use Rattle.rule.proofs.Firsts.{needs_meet}
use Rattle.rule.proofs.rule.RulePlant.enabled.Goals as goal

pub returns : goal.returns
returns c =
    let x = c.index.result.now in
    c.met.ensures
    ∙ ap (λ ns. meets x.needs (values_of ns c.args.state)) c.sizes.ensures
    ∙ needs_meet c.args.self.now.parts c.args.rule c.from.result x c.requires c.from.ensures c.index.ensures c.args.state
