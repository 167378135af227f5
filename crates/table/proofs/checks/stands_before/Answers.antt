use Rattle.std.proofs.Common.{true, false, rules, refl}
use native.Mathlib.Nat.{sub-zero}
use Rattle.std.proofs.lemmas.Iterator.{cases_from_any, serves_from_Range, YieldsList-from_range}
use Rattle.table.proofs.Repeats.{any_below}
use Rattle.table.proofs.checks.stands_before.Goals as goal

pub any-requires-clause-callable : goal.any-requires-clause-callable
any-requires-clause-callable g c = serves_from_Range (λ x q k. search rules) (λ x low high. search rules)

pub returns : goal.returns
returns g c =
    any_below c.args.place c.any.result (λ j. goal.F-post g c.args.same.now j c.args.place true) (λ j. goal.F-post g c.args.same.now j c.args.place false)
    (cases_from_any _ _ c.any.result (λ j. goal.F-post g c.args.same.now j c.args.place true) (λ j. goal.F-post g c.args.same.now j c.args.place false) c.any.ensures.ran (YieldsList-from_range 0 c.args.place c.args.place refl (sub-zero c.args.place)) (λ x q k. search rules) (λ x q k. search rules))
