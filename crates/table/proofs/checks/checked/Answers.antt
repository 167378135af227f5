use Rattle.std.proofs.Common.{◌≡◌, ℕ, List, sum, refl, subst}
use Rattle.table.specs.Words.{arc_count, counts}
use Rattle.table.specs.Refused.{OutOfRange, Repeated}
use Rattle.table.specs.Measured.{Measured}
use Rattle.table.proofs.checks.checked.Goals as goal

pub returns : goal.returns
returns c =
    let same = c.in_ok-table.ensures in (
      record {
        measured = subst Measured same c.in_ok-table.table.measured;
        ranged = subst (λ (ws : List ℕ). (i : ℕ) → OutOfRange ws i → ⊥) same c.in_default.ensures;
        adds = subst (λ (ws : List ℕ). sum (counts ws) ≡ arc_count ws) same (c.if-not-adds_up.ensures.0 refl);
        apart = subst (λ (ws : List ℕ). (i : ℕ) → Repeated ws i → ⊥) same c.in_default-repeated.ensures;
      },
      same,
    )
