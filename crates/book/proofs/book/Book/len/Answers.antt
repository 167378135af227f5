use Rattle.std.proofs.Common.{is_some, count_by, sym, ap, ◌∙◌, arith}
use Rattle.std.proofs.lemmas.List.{take_all}
use Rattle.book.proofs.Rows.{open_count}
use Rattle.book.proofs.book.Book.len.Goals as goal

pub returns : goal.returns
returns c =
    let b = c.args.self.now in
    c.loop-place.invariant.0 ∙ ap (count_by is_some) (take_all c.loop-place.place-index b.records (omega (arith, b.long, c.loop-place-test.false))) ∙ sym (open_count b.records)
