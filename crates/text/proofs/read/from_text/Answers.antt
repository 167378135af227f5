use Rattle.std.proofs.Common.{◌≡◌, None, Some, arith, rules}
use Rattle.std.proofs.lemmas.Result.{err_from_is_err_and, MatchResult-at_ok, MatchResult-at_err}
use Rattle.refusal.proofs.Mapped.{err_before, ok_before}
use Rattle.grammar.specs.Texts.{Sized, by_length}
use Rattle.text.specs.Spelled.{Tells}
use Rattle.text.proofs.Whole.{answered_no, answered_yes, refused, few, too_many, too_heavy, granted, one_whole, all_in_range}
use Rattle.text.proofs.read.from_text.Goals as goal

pub returns-then-is_empty : goal.returns-then-is_empty
returns-then-is_empty c =
    let none : Sized c.args.text.now → ⊥ = search rules in
    let a = answered_no c.args.text.now c.at.result (by_length none c.at.ensures) in
    record { answer = a.answer; only = a.only; reading = a.reading; number = a.number }

pub returns-in_err-map_err : goal.returns-in_err-map_err
returns-in_err-map_err c =
    let s : Sized c.args.text.now = (search rules, search rules) in
    let p = err_from_is_err_and c.from_residual.result c.from_residual.ensures.1 in
    let was = err_before _ c.whole.result c.map_err.ensures.cases c.in_err-map_err.was in
    let tells : Tells c.in_err-map_err.field-0.0 was.0 _ = search (rules, was.2) in
    let a = answered_no c.args.text.now c.in_err-map_err.field-0.0 (refused c.args.text.now was.0 _ s (MatchResult-at_err _ _ was.0 was.1 c.whole.ensures) tells) in
    rw (p.1, p.2) (record { answer = a.answer; only = a.only; reading = a.reading; number = a.number })

pub returns-in_err-len : goal.returns-in_err-len
returns-in_err-len c =
    let s : Sized c.args.text.now = (search rules, search rules) in
    let q = MatchResult-at_ok _ _ _ (ok_before _ c.whole.result c.map_err.ensures.cases c.in_ok-map_err.was) c.whole.ensures in
    let none : c.whole.new.out.count ≡ None = grind arith in
    let p = err_from_is_err_and c.from_residual-in_err-len.result c.from_residual-in_err-len.ensures.1 in
    let e : p.0 ≡ c.at-too_large.result = grind arith in
    let a = answered_no c.args.text.now c.at-too_large.result (too_many q.0 q.1 c.new-out.ensures s none c.at-too_large.ensures) in
    rw (p.1, e) (record { answer = a.answer; only = a.only; reading = a.reading; number = a.number })

pub shared_ref_as_front-weigh : goal.shared_ref_as_front-weigh
shared_ref_as_front-weigh c =
    let q = MatchResult-at_ok _ _ _ (ok_before _ c.whole.result c.map_err.ensures.cases c.in_ok-map_err.was) c.whole.ensures in
    let some : c.whole.new.out.count ≡ Some c.in_ok-len.len = grind arith in
    omega (arith, few q.0 q.1 c.new-out.ensures some)

pub returns-then-weigh-gt10 : goal.returns-then-weigh-gt10
returns-then-weigh-gt10 c =
    let s : Sized c.args.text.now = (search rules, search rules) in
    let q = MatchResult-at_ok _ _ _ (ok_before _ c.whole.result c.map_err.ensures.cases c.in_ok-map_err.was) c.whole.ensures in
    let some : c.whole.new.out.count ≡ Some c.in_ok-len.len = grind arith in
    let a = answered_no c.args.text.now c.at-too_large.result (too_heavy q.0 q.1 c.new-out.ensures some s (omega (arith, c.if-weigh-gt10.true, c.weigh.ensures)) c.at-too_large.ensures) in
    record { answer = a.answer; only = a.only; reading = a.reading; number = a.number }

pub invariant_of-result : goal.invariant_of-result
invariant_of-result c =
    let q = MatchResult-at_ok _ _ _ (ok_before _ c.whole.result c.map_err.ensures.cases c.in_ok-map_err.was) c.whole.ensures in
    let some : c.whole.new.out.count ≡ Some c.in_ok-len.len = grind arith in
    record {
      full = c.whole.new.out.full;
      fits = few q.0 q.1 c.new-out.ensures some;
      whole = one_whole q.0 q.1 c.new-out.ensures some;
      ranged = all_in_range q.0 q.1 c.new-out.ensures some;
      few = omega (arith, c.if-weigh-gt10.false, c.weigh.ensures);
    }

pub returns : goal.returns
returns c =
    let s : Sized c.args.text.now = (search rules, search rules) in
    let q = MatchResult-at_ok _ _ _ (ok_before _ c.whole.result c.map_err.ensures.cases c.in_ok-map_err.was) c.whole.ensures in
    let some : c.whole.new.out.count ≡ Some c.in_ok-len.len = grind arith in
    let a = answered_yes c.args.text.now _ (granted q.0 q.1 c.new-out.ensures some s (omega (arith, c.if-weigh-gt10.false, c.weigh.ensures))) in
    record { answer = a.answer; only = a.only; reading = a.reading; number = a.number }
