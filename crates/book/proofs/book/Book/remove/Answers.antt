use Rattle.std.proofs.Common.{arith}
use Rattle.book.proofs.Rows.{clear_look}
use Rattle.book.proofs.book.Book.remove.Goals as goal

pub returns : goal.returns
returns c =
    let b = c.args.self.now in
    let at = c.in-Some.ensures in
    (at.known, clear_look b.records c.in-Some.place c.args.state (omega (arith, b.long, at.within)) b.apart at.named)
