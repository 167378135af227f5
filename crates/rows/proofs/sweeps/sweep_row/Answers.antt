use Rattle.std.proofs.Common.{◌≡◌, ◌+◌, ◌-◌, subst, arith}
use Rattle.rows.proofs.Steps.{Swept, swept_none, swept_more}
use Rattle.rows.proofs.sweeps.sweep_row.Goals as goal

pub loop-p-init : goal.loop-p-init
loop-p-init c = swept_none _ _ _ _ _ _

pub loop-p-preserved : goal.loop-p-preserved
loop-p-preserved c =
    let a = c.args in
    let l = c.loop-p in
    let back : l.p ≡ l.p - 1 + 1 = omega (arith, c.loop-p-test.true) in
    let inv = subst (λ n. Swept a.cells.now l.cells a.parts.first a.parts.last a.out a.m a.end n l.next) back l.invariant in
    swept_more _ _ _ _ _ _ _ (l.p - 1) _ c.requires.before.0 c.requires.before.1 c.requires.room inv _ _ c.kept-next.ensures c.from.ensures

pub returns : goal.returns
returns c = record { row = λ p h. c.loop-p.invariant.done p (omega (arith, c.loop-p-test.false)) h; same = c.loop-p.invariant.same }
