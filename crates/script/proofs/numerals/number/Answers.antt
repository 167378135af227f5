use Rattle.std.proofs.Common.{◌+◌, drop, sym, subst, arith, rules}
use Rattle.std.proofs.lemmas.List.{drop_more, drop_all}
use Rattle.script.proofs.Digits.{Sofar, one_more, no_more, no_way}
use Rattle.script.proofs.numerals.number.Goals as goal

pub returns-in_err-n : goal.returns-in_err-n
returns-in_err-n c =
    let here = drop_more c.args.word.now c.loop-b.b-index 0 c.loop-b-test.true in
    rw c.from_residual.ensures (no_way (subst (Sofar _ _) here c.loop-b.invariant.0) c.in_err-n.ensures)

pub loop-b-preserved : goal.loop-b-preserved
loop-b-preserved c =
    let here = drop_more c.args.word.now c.loop-b.b-index 0 c.loop-b-test.true in
    let told = c.in_ok-n.ensures in (
      subst (λ n. Sofar c.args.word.now n (drop (c.loop-b.b-index + 1) c.args.word.now)) (sym told.1) (one_more (subst (Sofar _ _) here c.loop-b.invariant.0) told.0.0),
      omega (arith, told.0.1, told.1),
    )

pub returns : goal.returns
returns c =
    let end = drop_all c.loop-b.b-index c.args.word.now c.loop-b-test.false in
    no_more (subst (Sofar _ _) end c.loop-b.invariant.0) (search rules) c.loop-b.invariant.1
