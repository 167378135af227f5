use Rattle.std.proofs.Common.{rules, ◌≡◌, ℕ, List, take, None, Some, Ok, Err, Result, MatchResult, refl, ap, subst, ⊎_elim, arith}
use Rattle.std.proofs.lemmas.Option.{MatchOption-at_some, MatchOption-at_none}
use Rattle.std.proofs.lemmas.Result.{err_from_is_err_and, MatchResult-at_ok, MatchResult-at_err}
use Rattle.refusal.specs.Causes.{Gives}
use Rattle.refusal.proofs.Mapped.{err_before, ok_before}
use Rattle.refusal.specs.declared.Layer.TheVariants.{Formula as FormulaLayer}
use Rattle.refusal.specs.declared.Refusal.{Refusal}
use Rattle.formula.specs.Stack.{tree}
use Rattle.formula.specs.View.{entries_of}
use Rattle.formula.specs.Words.{Granted, Refused, by_length, by_entry, by_parts, by_number, by_weight, OneTree}
use Rattle.formula.specs.declared.formula.Formula.{Formula}
use Rattle.formula.proofs.Making.{lists_in_range, made}
use Rattle.formula.proofs.Stacks.{whole}
use Rattle.formula.proofs.Settled.{Unshaped, one_tree, one_refusal, not_both}
use Rattle.formula.proofs.formula.Formula.from_words.Goals as goal

-- all that is promised of a call that gives a refusal
record Gave (ws : List ℕ) (res : Result Formula Refusal) : Type 0 where
  answer : MatchResult res (λ f. Granted ws (entries_of f)) (λ e. Refused ws e)
  only : (e : Refusal) → Refused ws e → res ≡ Err e
  one : OneTree

refusing : {ws : List ℕ} {r : Refusal} {res : Result Formula Refusal} → res ≡ Err r → Refused ws r → Gave ws res
refusing {ws} {r} is h =
    rw is (record { answer = h; only = λ e k. ap (λ x. Err x) (one_refusal r e h k); one = one_tree })

pub returns-in_err-n : goal.returns-in_err-n
returns-in_err-n c =
    let none : c.counted.result ≡ None = grind arith in
    let p = err_from_is_err_and c.from_residual.result c.from_residual.ensures.1 in
    let r : p.0 ≡ c.at.result = grind arith in
    let o = refusing p.1 (rw r (by_length (MatchOption-at_none _ _ none c.counted.ensures) c.at.ensures)) in record { answer = o.answer; only = o.only; tree = o.one }

pub returns-in_err-entries : goal.returns-in_err-entries
returns-in_err-entries c =
    let some : c.counted.result ≡ Some c.in_ok-n.n = grind arith in
    let counted = MatchOption-at_some _ _ _ some c.counted.ensures in
    let p = err_from_is_err_and c.from_residual-in_err-entries.result c.from_residual-in_err-entries.ensures.1 in
    let was = err_before _ c.listed.result c.map_err.ensures.cases c.in_err-entries.was in
    let unspelled = MatchResult-at_err _ _ was.0 was.1 c.listed.ensures in
    let gives : Gives c.in_err-entries.field-0.0 12 FormulaLayer was.0 = search (rules, was.2) in
    let o = refusing p.1 (rw p.2 (by_entry counted.1 was.0 unspelled gives)) in record { answer = o.answer; only = o.only; tree = o.one }

pub returns-in_err-map_err : goal.returns-in_err-map_err
returns-in_err-map_err c =
    let some : c.counted.result ≡ Some c.in_ok-n.n = grind arith in
    let counted = MatchOption-at_some _ _ _ some c.counted.ensures in
    let listed = MatchResult-at_ok _ _ _ (ok_before _ c.listed.result c.map_err.ensures.cases c.in_ok-entries.was) c.listed.ensures in
    let n = c.in_ok-n.n in
    let es = c.in_ok-entries.entries in
    let p = err_from_is_err_and c.from_residual-in_err-map_err.result c.from_residual-in_err-map_err.ensures.1 in
    let was = err_before _ c.joined.result c.map_err-2.ensures.cases c.in_err-map_err.was in
    let gives : Gives c.in_err-map_err.field-0.0 13 FormulaLayer was.0 = search (rules, was.2) in
    let why : Unshaped (take n es) was.0 = MatchResult-at_err _ _ was.0 was.1 c.joined.ensures in
    let o =
    refusing
    p.1
    (rw p.2 (⊎_elim
    (λ l. by_parts counted.1 (take n es) listed.1 was.0 l gives)
    (λ k. by_number counted.1 (take n es) listed.1 k.1 (subst (λ i. Gives c.in_err-map_err.field-0.0 13 FormulaLayer i) k.0 gives))
    why)) in
    record { answer = o.answer; only = o.only; tree = o.one }

pub returns-then-weigh-gt10 : goal.returns-then-weigh-gt10
returns-then-weigh-gt10 c =
    let some : c.counted.result ≡ Some c.in_ok-n.n = grind arith in
    let counted = MatchOption-at_some _ _ _ some c.counted.ensures in
    let listed = MatchResult-at_ok _ _ _ (ok_before _ c.listed.result c.map_err.ensures.cases c.in_ok-entries.was) c.listed.ensures in
    let joined = MatchResult-at_ok _ _ _ (ok_before _ c.joined.result c.map_err-2.ensures.cases c.in_ok-map_err.was) c.joined.ensures in
    let n = c.in_ok-n.n in
    let es = c.in_ok-entries.entries in
    let o =
    refusing
    refl
    (by_weight counted.1 (take n es) listed.1 (tree (take n es))
    (whole (take n es) joined.0 joined.1)
    (omega (arith, c.if-weigh-gt10.true, c.weigh.ensures))
    c.at-then-weigh-gt10.ensures) in
    record { answer = o.answer; only = o.only; tree = o.one }

pub invariant_of-result : goal.invariant_of-result
invariant_of-result c =
    let some : c.counted.result ≡ Some c.in_ok-n.n = grind arith in
    let counted = MatchOption-at_some _ _ _ some c.counted.ensures in
    let listed = MatchResult-at_ok _ _ _ (ok_before _ c.listed.result c.map_err.ensures.cases c.in_ok-entries.was) c.listed.ensures in
    let joined = MatchResult-at_ok _ _ _ (ok_before _ c.joined.result c.map_err-2.ensures.cases c.in_ok-map_err.was) c.joined.ensures in
    let n = c.in_ok-n.n in
    let es = c.in_ok-entries.entries in
    record {
      full = listed.0;
      fits = omega (arith, counted.0, counted.1.high);
      whole = whole (take n es) joined.0 joined.1;
      ranged = lists_in_range listed.1;
      few = omega (arith, c.if-weigh-gt10.false, c.weigh.ensures);
    }

pub returns : goal.returns
returns c =
    let some : c.counted.result ≡ Some c.in_ok-n.n = grind arith in
    let counted = MatchOption-at_some _ _ _ some c.counted.ensures in
    let listed = MatchResult-at_ok _ _ _ (ok_before _ c.listed.result c.map_err.ensures.cases c.in_ok-entries.was) c.listed.ensures in
    let joined = MatchResult-at_ok _ _ _ (ok_before _ c.joined.result c.map_err-2.ensures.cases c.in_ok-map_err.was) c.joined.ensures in
    let m = made (take c.in_ok-n.n c.in_ok-entries.entries) counted.1 listed.1 joined (omega (arith, c.if-weigh-gt10.false, c.weigh.ensures)) in
    record { answer = m; only = λ e k. absurd (not_both _ e m k); tree = one_tree }
