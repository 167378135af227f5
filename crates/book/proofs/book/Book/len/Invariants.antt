use Rattle.std.proofs.Common.{◌≡◌, ◌≤◌, is_some, count_by, take}
use Rattle.book.proofs.book.Book.len.Given as goal

abbrev pub invariant-loop-place : goal.invariant-loop-place
invariant-loop-place l = (l.count ≡ count_by is_some (take l.place-index l.self.records)) × (l.count ≤ l.place-index)
