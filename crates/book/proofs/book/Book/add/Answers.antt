use Rattle.std.proofs.Common.{◌≡◌, ℕ, ◌%◌, ◌<◌, cond, eqb, true, false, length, get_or, is_some, is_none, Some, None, Ok, Err, Option, sym, refl, ap, ◌∙◌, subst, arith, MatchOption, position, ok_or}
use Rattle.std.proofs.lemmas.List.{length-set}
use Rattle.std.proofs.lemmas.Result.{err_from_is_err_and}
use Rattle.book.specs.Records.{look, Holds}
use Rattle.book.specs.Books.{book_of, opened, PlaceOf}
use Rattle.book.specs.declared.book.Book.{Book}
use Rattle.book.specs.declared.edits.NotAdded.{NotAdded}
use Rattle.book.specs.declared.edits.NotAdded.TheVariants.{Full}
use Rattle.book.proofs.Rows.{first, put_apart, put_few, put_look, room, all_open, not_held}
use Rattle.book.proofs.book.Book.add.Goals as goal

-- a state that is not found is closed
closed : (b : Book) (s : ℕ) (o : Option ℕ) → MatchOption o (book_of b s ≡ None) (PlaceOf b s) → is_some o ≡ false → book_of b s ≡ None
closed b s None none e = none
closed b s (Some i) found e = cc

-- where no place is free, every one is taken
full : (b : Book) (o : Option ℕ) (why : NotAdded) → o ≡ position is_none b.records → ok_or o Full ≡ Err why → (why ≡ Full) × (length (opened b) ≡ 256)
full b None why is e = (cc, all_open b.records (rw (sym is) at (first is_none b.records None)) ∙ b.long)
full b (Some i) why is e = cc

-- a place that is free
free : (b : Book) (o : Option ℕ) (i : ℕ) → o ≡ position is_none b.records → ok_or o Full ≡ Ok i → (i < length b.records) × (is_none (get_or b.records i None) ≡ true)
free b None i is e = cc
free b (Some j) i is e = let same : j ≡ i = cc in subst (λ k. (k < length b.records) × (is_none (get_or b.records k None) ≡ true)) same (rw (sym is) at (first is_none b.records None))

pub returns-in_err-place : goal.returns-in_err-place
returns-in_err-place g c =
    let b = c.args.self.now in
    let p = err_from_is_err_and c.from_residual.result c.from_residual.ensures.1 in
    let none = closed b c.args.state c.find.result c.find.ensures (sym c.is_some.ensures ∙ c.if-is_some.false) in
    let all = full b c.free.result c.in_err-place.field-0.0 c.free.ensures (sym c.ok_or.ensures.value ∙ c.in_err-place.was) in
    rw (p.1, p.2, all.0) ((none, all.1), refl)

-- no record is of a state that was not found
fresh : (b : Book) (s t : ℕ) → s ≡ t → book_of b s ≡ None → (k : ℕ) → k < length b.records → Holds b.records t k → ⊥
fresh b s t same none = not_held b.records t b.apart (ap (look b.records) (sym same) ∙ none)

pub invariant_of-self : goal.invariant_of-self
invariant_of-self g c =
    let b = c.args.self.now in
    let none = closed b c.args.state c.find.result c.find.ensures (sym c.is_some.ensures ∙ c.if-is_some.false) in
    let at = free b c.free.result c.in_ok-place.place c.free.ensures (sym c.ok_or.ensures.value ∙ c.in_ok-place.was) in
    record {
      long = length-set b.records c.in_ok-place.place (Some c.of-record.result) ∙ b.long;
      advised = length-set b.hints (c.args.state % 256) c.in_ok-place.place ∙ b.advised;
      apart = put_apart b.records c.in_ok-place.place c.of-record.result at.0 (fresh b c.args.state c.of-record.result.state (sym c.of-record.ensures.state) none) b.apart;
      few = put_few b.records c.in_ok-place.place c.of-record.result at.0 c.of-record.ensures.few b.few;
    }

pub returns : goal.returns
returns g c =
    let b = c.args.self.now in
    let r = c.of-record.result in
    let i = c.in_ok-place.place in
    let none = closed b c.args.state c.find.result c.find.ensures (sym c.is_some.ensures ∙ c.if-is_some.false) in
    let at = free b c.free.result i c.free.ensures (sym c.ok_or.ensures.value ∙ c.in_ok-place.was) in
    let adds = put_look b.records i r at.0 at.1 (fresh b c.args.state r.state (sym c.of-record.ensures.state) none) in (
      none,
      omega (arith, room b.records i at.0 at.1, b.long),
      λ t. adds t ∙ (λ k. cond (eqb (c.of-record.ensures.state k) t) (Some (c.of-record.ensures.said k)) (look b.records t)),
    )
