use Rattle.book.proofs.Rows.{empty_apart, empty_few}
use Rattle.book.proofs.book.Book.new.Goals as goal

pub invariant_of-result-clause-apart : goal.invariant_of-result-clause-apart
invariant_of-result-clause-apart c = empty_apart 256

pub invariant_of-result-clause-few : goal.invariant_of-result-clause-few
invariant_of-result-clause-few c = empty_few 256
