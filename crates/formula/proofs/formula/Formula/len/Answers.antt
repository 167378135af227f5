use Rattle.std.proofs.Common.{length, ap, arith}
use Rattle.formula.proofs.Views.{view_length, view_some}
use Rattle.formula.proofs.formula.Formula.len.Goals as goal

pub returns : goal.returns
returns c =
    let f = c.args.self.now in
    let is = ap length c.entries.ensures in
    record { value = is; bound = (omega (arith, is, view_some f), omega (arith, is, view_length f, f.fits)) }
