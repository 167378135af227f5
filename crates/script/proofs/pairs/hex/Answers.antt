use Rattle.std.proofs.Common.{◌≡◌, ◌-◌, ◌<◌, [], length, get_or, take, drop, sym, ap, subst, arith, rules}
use Rattle.std.proofs.lemmas.List.{nil_from_length}
use Rattle.script.specs.Words.{Skips}
use Rattle.script.specs.Values.{Pair, NextPair}
use Rattle.script.proofs.Cuts.{skips_once, blank_skips, skips_blank, skips_length, by_two}
use Rattle.script.proofs.Lists.{Sofar, steady_pair, one_more, no_more, no_way}
use Rattle.script.proofs.pairs.hex.Goals as goal

pub returns-in_default-pair : goal.returns-in_default-pair
returns-in_default-pair c =
    let rest = c.loop-rest.rest.now in
    let some : 1 < length rest = search rules in
    let two = by_two rest some in
    let old = c.loop-rest.invariant in
    no_way old.1
    (λ x p next.
    let same = sym (skips_once next.2 old.2) in
    let highs : next.0 ≡ get_or rest 0 0 = ap (λ l. get_or l 0 0) (sym same) in
    let lows : next.1 ≡ get_or rest 1 0 = ap (λ l. get_or l 1 0) (sym same) in
    c.in_default-pair.ensures x (subst (λ h. Pair h (get_or rest 1 0) x) highs (subst (λ l. Pair next.0 l x) lows next.3)))
    (λ h. omega (arith, ap length (blank_skips h old.2)))

pub loop-rest-smaller : goal.loop-rest-smaller
loop-rest-smaller c =
    let rest = c.loop-rest.rest.now in
    let some : 1 < length rest = search rules in
    omega (arith, skips_length c.after_gap-rest-in-len2-up.ensures, ap length (by_two rest some))

pub loop-rest-preserved : goal.loop-rest-preserved
loop-rest-preserved c =
    let rest = c.loop-rest.rest.now in
    let some : 1 < length rest = search rules in
    let two = by_two rest some in
    let old = c.loop-rest.invariant in
    let after = take (length rest - 2) (drop 2 rest) in (
      after,
      subst (λ l. Sofar NextPair c.args.bytes.now l after) (sym c.in_ok-push.ensures.items)
          (one_more steady_pair old.1 (get_or rest 0 0, get_or rest 1 0, subst (Skips _) two old.2, c.in-Some.ensures)),
      c.after_gap-rest-in-len2-up.ensures,
    )

pub returns-then-is_empty : goal.returns-then-is_empty
returns-then-is_empty c =
    let old = c.loop-rest.invariant in
    let none : c.loop-rest.rest.now ≡ [] = nil_from_length c.loop-rest.rest.now (search rules) in
    no_more old.1 (skips_blank (subst (Skips _) none old.2))

pub returns-else-is_empty : goal.returns-else-is_empty
returns-else-is_empty c =
    let old = c.loop-rest.invariant in
    let some : 0 < length c.loop-rest.rest.now = search rules in
    let short : length c.loop-rest.rest.now < 2 = search rules in
    no_way old.1 (λ x p next. omega (arith, ap length (skips_once next.2 old.2))) (λ h. omega (arith, ap length (blank_skips h old.2)))
