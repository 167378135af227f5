use Rattle.std.proofs.Common.{arith}
use Rattle.rows.specs.Cells.{run_of}
use Rattle.rows.proofs.Backs.{back_low}
use Rattle.rows.proofs.Turns.{filled_none, filled_more}
use Rattle.rows.proofs.run.Run.row.Goals as goal

pub loop-p-init : goal.loop-p-init
loop-p-init g c = filled_none _ _ _ _ _ _ _

pub loop-p-preserved : goal.loop-p-preserved
loop-p-preserved g c =
    let a = c.args in
    filled_more (g.S.States.system a.states.now) (run_of a.self.now) a.e a.cells.now c.loop-p.cells a.parts.first a.parts.last a.out c.loop-p.p
    c.requires.rows.0 c.requires.rows.1 (back_low a.self.now) c.loop-p-test.true c.loop-p.invariant _ _ c.cell-holds.ensures c.from.ensures

pub returns : goal.returns
returns g c = record { row = λ p h. c.loop-p.invariant.done p (omega (arith, c.loop-p-test.false)); same = c.loop-p.invariant.same }
