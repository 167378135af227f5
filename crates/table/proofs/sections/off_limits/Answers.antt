use Rattle.std.proofs.Common.{◌≡◌, ℕ, ◌<◌, ◌≤◌, List, Some, None, Option, MatchOption, length, get_or, subst, inl, inr, ◌⊎◌, ⊎_elim, arith, rules, tests}
use Rattle.std.specs.List.{HoldsAt, AllWithin, zip}
use Rattle.std.proofs.lemmas.Slice.Zip.{length-zip, get_or-zip}
use Rattle.std.proofs.lemmas.Iterator.{IsFirst-from_position, YieldsList-from_slice, YieldsList-from_zip}
use Rattle.std.proofs.lemmas.Iterator.Consumers.{YieldsList-at}
use Rattle.std.proofs.lemmas.Bool.{cases_lt}
use Rattle.refusal.specs.Rows.{Lowest}
use Rattle.table.specs.Refused.{limits, OffLimits}
use Rattle.table.proofs.sections.off_limits.Goals as goal

-- a word is outside its limits
abbrev Off : ℕ × (ℕ × ℕ) → Type 0
Off p = (p.0 < p.1.0) ⊎ (p.1.1 < p.0)

module _ (ws : List ℕ) (some : 4 ≤ length ws) where
  within : length (zip ws limits) ≡ 4
  within = omega (arith, length-zip ws limits)

  at : (i : ℕ) → i < 4 → get_or (zip ws limits) i (0, (0, 0)) ≡ (get_or ws i 0, get_or limits i (0, 0))
  at i lt = get_or-zip ws limits i (0, (0, 0)) (omega (arith, some)) lt

  lowest : (r : Option ℕ) → MatchOption r (AllWithin (λ p. Off p → ⊥) (zip ws limits) 0 (length (zip ws limits)))
      (λ i. (i < length (zip ws limits)) × HoldsAt Off (zip ws limits) i × AllWithin (λ p. Off p → ⊥) (zip ws limits) 0 i)
      → MatchOption r ((i : ℕ) → OffLimits ws i → ⊥) (Lowest (OffLimits ws))
  lowest None none = λ i off. subst (λ p. Off p → ⊥) (at i off.0) (none i (0, (0, 0)) (omega arith) (omega (arith, within, off.0))) off.1
  lowest (Some i) found =
      let lt : i < 4 = omega (arith, found.0, within) in
      record {
        here = (lt, subst Off (at i lt) (found.1 (0, (0, 0))));
        none_below = λ j low off. subst (λ p. Off p → ⊥) (at j off.0) (found.2 j (0, (0, 0)) (omega arith) low) off.1;
      }

pub returns : goal.returns
returns c =
    let ws = c.args.words.now in
    lowest ws c.requires c.position.result
    (IsFirst-from_position c.position.new.self _ c.position.result Off (λ p. Off p → ⊥) c.position.ensures.ran
    (YieldsList-from_zip (YieldsList-at c.zip.ensures.first (YieldsList-from_slice ws c.iter.ensures.rest)) (YieldsList-at c.zip.ensures.second (YieldsList-from_slice limits c.iter-2.ensures.rest)))
    (λ x q k. ⊎_elim (λ low. inl low) (λ ge. inr (search (rules, tests))) (cases_lt x.0.now x.1.now.0))
    (λ x q k. (search rules, λ off. ⊎_elim (λ low. search (rules, tests)) (λ high. search (rules, tests)) off)))
