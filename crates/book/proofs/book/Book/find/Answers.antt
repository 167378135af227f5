use Rattle.std.proofs.Common.{◌≡◌, ℕ, ◌<◌, length, Some, None, Option, sym, ◌∙◌, arith, MatchOption}
use Rattle.book.specs.Records.{names, Holds}
use Rattle.book.specs.Books.{book_of, PlaceOf}
use Rattle.book.specs.declared.book.Book.{Book}
use Rattle.book.proofs.Rows.{first, look_none, look_some, look_at, inside}
use Rattle.book.proofs.book.Book.find.Goals as goal

place_of : (b : Book) (s i : ℕ) → Holds b.records s i → PlaceOf b s i
place_of b s i h = record {
  within = omega (arith, b.long, inside b.records s i h);
  named = h;
  found = sym (look_at b.records s i b.apart h);
  known = look_some b.records s i b.apart h;
}

-- what the search answers is what is promised
answer : (b : Book) (s : ℕ) (o : Option ℕ) → MatchOption o ((k : ℕ) → k < length b.records → Holds b.records s k → ⊥) (λ i. (i < length b.records) × Holds b.records s i) → MatchOption o (book_of b s ≡ None) (λ i. PlaceOf b s i)
answer b s None none = look_none b.records s none
answer b s (Some i) found = place_of b s i found.1

pub returns-then-is_of : goal.returns-then-is_of
returns-then-is_of c = place_of c.args.self.now c.args.state c.from-hint.result (sym c.is_of.ensures ∙ c.if-is_of.true)

pub returns : goal.returns
returns c =
    let b = c.args.self.now in
    let s = c.args.state in
    answer b s c.search.result (rw c.search.ensures (first (λ r. names r s) b.records None))
