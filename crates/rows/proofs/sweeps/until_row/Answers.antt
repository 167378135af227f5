use Rattle.std.proofs.Common.{◌+◌, ◌-◌, true, false, eqb, sym, ap, ◌∙◌, arith}
use Rattle.std.proofs.lemmas.Bool.{eq-eqb}
use Rattle.std.specs.Option.{unwrap_or}
use Rattle.meaning.specs.Truth.{sweep}
use Rattle.rows.specs.Rows.{on}
use Rattle.rows.proofs.Steps.{sweep_same}
use Rattle.rows.proofs.sweeps.until_row.Goals as goal

pub returns-then-cells-out-eq1 : goal.returns-then-cells-out-eq1
returns-then-cells-out-eq1 c =
    let a = c.args in
    let once = c.sweep_row.ensures in
    let twice = c.sweep_row-then-cells-out-eq1.ensures in
    let F = on a.cells.now a.parts.first in
    let G = on a.cells.now a.parts.last in
    let again =
    sym (eq-eqb _ 1 c.if-cells-out-eq1.true) ∙ once.row c.in-Some.back (omega (arith, c.requires.back, ap (λ o. unwrap_or o 0) c.in-Some.is))
    ∙ sym (ap (λ o. sweep F G false (a.m - unwrap_or o a.m) (unwrap_or o a.m)) c.in-Some.is) in
    record {
      row = λ p h.
          twice.row p h
          ∙ sweep_same _ _ (on a.cells.now a.parts.first) (on a.cells.now a.parts.last) true a.m
          (λ q lt. ap (λ x. eqb x 1) (once.same (a.parts.first + q) (omega (arith, c.requires.before.0))))
          (λ q lt. ap (λ x. eqb x 1) (once.same (a.parts.last + q) (omega (arith, c.requires.before.1))))
          (a.m - p) p (omega arith)
          ∙ ap (λ b. sweep (on a.cells.now a.parts.first) (on a.cells.now a.parts.last) b (a.m - p) p) again;
      same = λ k h. twice.same k h ∙ once.same k h;
    }
