use Rattle.std.proofs.Common.{◌≡◌, ◌+◌, ◌<◌, true, length, take, sym, ap, ◌∙◌, subst, arith}
use Rattle.formula.specs.Evaluated.{Evaluated}
use Rattle.formula.specs.Stack.{sound}
use Rattle.formula.specs.Table.{weight}
use Rattle.formula.specs.View.{entries_of}
use Rattle.formula.proofs.Views.{view_sound, some_weight, evaluated_at}
use Rattle.formula.proofs.formula.Formula.value.Goals as goal

pub evaluate-requires : goal.evaluate-requires
evaluate-requires c =
    let f = c.args.self.now in
    let i = c.args.at in
    let is = c.entries-entries.ensures in
    let counted = c.weigh-count.ensures in
    record {
      within = c.if-at-entries.false;
      whole = subst (λ l. sound 0 l ≡ true) (sym is) (view_sound f);
      counted = counted;
      few = omega (arith, some_weight f (i + 1), counted, ap (λ l. weight (take (i + 1) l)) is);
    }

pub returns : goal.returns
returns c =
    let f = c.args.self.now in
    let i = c.args.at in
    let is = c.entries-entries.ensures in
    let lt = c.if-at-entries.false in
    let inside : i < length (entries_of f) = omega (arith, lt, ap length is) in (
      inside,
      evaluated_at f inside
          (c.weigh-count.ensures ∙ ap (λ l. weight (take (i + 1) l)) is)
          (subst (λ l. Evaluated l i c.weigh-count.result c.args.word c.evaluate.result) is c.evaluate.ensures),
    )
