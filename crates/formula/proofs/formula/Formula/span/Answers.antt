use Rattle.std.proofs.Common.{◌≡◌, true, sym, subst}
use Rattle.formula.specs.Stack.{sound}
use Rattle.formula.proofs.Views.{view_sound}
use Rattle.formula.proofs.formula.Formula.span.Goals as goal

pub span-requires : goal.span-requires
span-requires c = record {
  within = c.if-at-entries.false;
  whole = subst (λ l. sound 0 l ≡ true) (sym c.entries-entries.ensures) (view_sound c.args.self.now);
}
