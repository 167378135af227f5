use Rattle.std.proofs.Common.{ℕ, ◌<◌, true, false, rules, refl}
use native.Mathlib.Nat.{sub-zero}
use Rattle.std.proofs.lemmas.Iterator.{first_from_find, YieldsList-from_range}
use Rattle.table.proofs.Repeats.{first_below}
use Rattle.table.proofs.checks.first_again.Goals as goal

pub returns : goal.returns
returns g c = record {
  answer =
      first_below (λ j k b. goal.F-post g c.args.same j k b) c.args.count c.find.result
      (first_from_find _ _ c.find.result (λ k. (j : ℕ) × (j < k) × goal.F-post g c.args.same j k true) (λ k. (j : ℕ) → j < k → goal.F-post g c.args.same j k false) c.find.ensures.ran (YieldsList-from_range 0 c.args.count c.args.count refl (sub-zero c.args.count)) (λ x q k. search rules) (λ x q k. search rules));
}
