use Rattle.std.proofs.Common.{◌≡◌, ℕ, List, None, Some, ◌+◌, ◌<◌, ◌≢◌, ◌-◌, length, take, drop, get_or, arith, sym, ap, ◌∙◌, subst, length-set, length-take-le, get_or-set_other, get_or-take, get_or-set_same, below_more}
use Rattle.std.proofs.lemmas.List.{get_or-drop}
use Rattle.std.proofs.lemmas.Option.{MatchOption-at_some, MatchOption-at_none}
use Rattle.std.proofs.lemmas.Result.{err_from_is_err_and}
use Rattle.std.proofs.lemmas.Grind.{get_or_after_one}
use Rattle.formula.specs.declared.entry.Entry.{Entry}
use Rattle.formula.specs.declared.entry.Entry.TheVariants.{True}
use Rattle.formula.specs.Words.{count, Counted, Says, Spells, Unspelled}
use Rattle.formula.proofs.words.listed.Goals as goal

-- the two words of an entry, in the two halves of what follows the count
kind_at : (ws : List ℕ) (n i : ℕ) → i < n → n < length ws → get_or (take n (take (length ws - 1) (drop 1 ws))) i 0 ≡ get_or ws (1 + i) 0
kind_at ws n i lt long =
    get_or-take n _ i 0 lt ∙ get_or-take (length ws - 1) _ i 0 (omega arith) ∙ get_or_after_one ws i 0

argument_at : (ws : List ℕ) (n i : ℕ) → n + i < length ws - 1 → get_or (drop n (take (length ws - 1) (drop 1 ws))) i 0 ≡ get_or ws (1 + n + i) 0
argument_at ws n i lt =
    get_or-drop n _ i 0 ∙ get_or-take (length ws - 1) _ (n + i) 0 lt ∙ get_or_after_one ws (n + i) 0 ∙ ap (λ k. get_or ws k 0) (omega arith)

-- the words of an entry are the ones that stand at its place in the two halves
module _ (ws : List ℕ) {n i : ℕ} {front back : List ℕ} (counted : Counted ws) (is : n ≡ count ws) (lt : i < n) (front_is : front ≡ take n (take (length ws - 1) (drop 1 ws))) (back_is : back ≡ drop n (take (length ws - 1) (drop 1 ws))) where
  kind : get_or front i 0 ≡ get_or ws (1 + i) 0
  kind = ap (λ l. get_or l i 0) front_is ∙ kind_at ws n i lt (omega (arith, counted.low, counted.long, is))

  argument : get_or back i 0 ≡ get_or ws (1 + count ws + i) 0
  argument =
      ap (λ l. get_or l i 0) back_is ∙ argument_at ws n i (omega (arith, counted.long, is, lt)) ∙ ap (λ c. get_or ws (1 + c + i) 0) is

  says : {e : Entry} → Spells (get_or front i 0) (get_or back i 0) e → Says ws i e
  says s = record { by_kind = sym kind ∙ s.by_kind; by_argument = sym argument ∙ s.by_argument; within_range = s.within_range }

  spells : {e : Entry} → Says ws i e → Spells (get_or front i 0) (get_or back i 0) e
  spells s = record { by_kind = kind ∙ s.by_kind; by_argument = argument ∙ s.by_argument; within_range = s.within_range }

pub loop-i-preserved : goal.loop-i-preserved
loop-i-preserved c =
    let ws = c.args.words.now in
    let i = c.loop-i.i in
    let es = c.loop-i.entries in
    let e = c.in_ok-entries.field-0 in
    let inside : i < length es = omega (arith, c.loop-i.invariant.0, c.requires.counted.0.high, c.requires.counted.1, c.loop-i-test.true, c.split_at.ensures.front_len) in
    let some : c.spelled.result ≡ Some e = grind arith in
    let spelled = MatchOption-at_some _ _ _ some c.spelled.ensures in
    let lt : i < c.args.n = omega (arith, c.loop-i-test.true, c.split_at.ensures.front_len) in
    let here : Says ws i e = says ws c.requires.counted.0 c.requires.counted.1 lt c.split_at.ensures.front c.split_at.ensures.back spelled in (
      length-set es i e ∙ c.loop-i.invariant.0,
      below_more _ i
          (λ k lt. let ne : k ≢ i = omega arith in subst (Says ws k) (sym (get_or-set_other es i k e True ne)) (c.loop-i.invariant.1 k lt))
          (subst (Says ws i) (sym (get_or-set_same es i e True inside)) here),
    )

pub returns-in_err-entries : goal.returns-in_err-entries
returns-in_err-entries c =
    let ws = c.args.words.now in
    let none : c.spelled.result ≡ None = grind arith in
    let lt : c.loop-i.i < c.args.n = omega (arith, c.loop-i-test.true, c.split_at.ensures.front_len) in
    let p = err_from_is_err_and c.from_residual.result c.from_residual.ensures.1 in
    let at : c.in_err-entries.field-0.0 ≡ c.loop-i.i = grind arith in
    let unspelled : Unspelled ws c.loop-i.i =
    record {
      within = omega (arith, c.requires.counted.1, lt);
      none = λ e s. MatchOption-at_none _ _ none c.spelled.ensures e (spells ws c.requires.counted.0 c.requires.counted.1 lt c.split_at.ensures.front c.split_at.ensures.back s);
      before = λ j less. (get_or c.loop-i.entries j True, c.loop-i.invariant.1 j less);
    } in
    rw (p.1, p.2) (subst (λ i. Unspelled ws i) (sym at) unspelled)

pub returns : goal.returns
returns c =
    let ws = c.args.words.now in
    let es = c.loop-i.entries in
    let n = c.args.n in
    let e = c.requires.counted.1 in (
      c.loop-i.invariant.0,
      record {
        long = length-take-le n es (omega (arith, c.loop-i.invariant.0, c.requires.counted.0.high, e)) ∙ e;
        each = λ i lt. subst (Says ws i) (sym (get_or-take n es i True (omega (arith, e)))) (c.loop-i.invariant.1 i (omega (arith, e, c.loop-i-test.false, c.split_at.ensures.front_len)));
      },
    )
