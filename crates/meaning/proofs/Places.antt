-- Positions of the path of a run, and its places. Assumes nothing.
use Rattle.std.proofs.Common.{◌≡◌, ℕ, zero, suc, ◌+◌, ◌<◌, ◌≤◌, Bool, true, cond, ltb, ◌⊎◌, Decides, sym, refl, ◌∙◌, subst, inl, inr, ⊎_elim, arith}
use Rattle.std.proofs.lemmas.Bool.{cases_lt, lt-ltb, le-ltb, ltb-true, cond-true, cond-false, or_right, or_left, or_cases}
use Rattle.meaning.specs.Paths.{endless, ends, Within}
use Rattle.meaning.specs.Runs.{Run, places, after, place, unroll}
use Rattle.meaning.specs.Truth.{goes}

module _ (r : Run) where
  pub after_mid : (p : ℕ) → p + 1 < places r → after r p ≡ p + 1
  after_mid p h = cond-true (ltb (p + 1) (places r)) (p + 1) r.back (lt-ltb (p + 1) (places r) h)

  pub after_last : (p : ℕ) → places r ≤ p + 1 → after r p ≡ r.back
  after_last p h = cond-false (ltb (p + 1) (places r)) (p + 1) r.back (le-ltb (p + 1) (places r) h)

  pub within_loop : (i : ℕ) → r.back < places r → Within (unroll r).len i
  within_loop i h = subst (λ (b : Bool). Within (cond b endless (ends (places r))) i) (sym (lt-ltb r.back (places r) h)) tt

  pub from_line : (i : ℕ) → places r ≤ r.back → Within (unroll r).len i → i < places r
  from_line i h w = subst (λ (b : Bool). Within (cond b endless (ends (places r))) i) (le-ltb r.back (places r) h) w

  pub to_line : (i : ℕ) → places r ≤ r.back → i < places r → Within (unroll r).len i
  to_line i h w = subst (λ (b : Bool). Within (cond b endless (ends (places r))) i) (sym (le-ltb r.back (places r) h)) w

  pub loop_place : 0 < places r → r.back < places r → (i : ℕ) → place r i < places r
  loop_place some loop zero = some
  loop_place some loop (suc i) =
      ⊎_elim
      (λ h. subst (λ p. p < places r) (sym (after_mid (place r i) h)) h)
      (λ h. subst (λ p. p < places r) (sym (after_last (place r i) h)) loop)
      (cases_lt (place r i + 1) (places r))

  pub line_place : (i : ℕ) → i < places r → place r i ≡ i
  line_place zero h = refl
  line_place (suc i) h =
      let e = line_place i (omega arith) in
      after_mid (place r i) (omega arith) ∙ omega arith

  pub down : (i : ℕ) → Within (unroll r).len (suc i) → Within (unroll r).len i
  down i w = ⊎_elim (λ loop. within_loop i loop) (λ line. let h = from_line (suc i) line w in to_line i line (omega arith)) (cases_lt r.back (places r))

  pub inside : 0 < places r → (i : ℕ) → Within (unroll r).len i → place r i < places r
  inside some i w =
      ⊎_elim
      (λ loop. loop_place some loop i)
      (λ line. let h = from_line i line w in let e = line_place i h in omega arith)
      (cases_lt r.back (places r))

  pub goes_loop : (p : ℕ) → r.back < places r → goes r p ≡ true
  goes_loop p h = or_right (ltb (p + 1) (places r)) (ltb r.back (places r)) (lt-ltb r.back (places r) h)

  pub goes_mid : (p : ℕ) → p + 1 < places r → goes r p ≡ true
  goes_mid p h = or_left (ltb (p + 1) (places r)) (ltb r.back (places r)) (lt-ltb (p + 1) (places r) h)

  pub goes_cases : (p : ℕ) → goes r p ≡ true → (p + 1 < places r) ⊎ (r.back < places r)
  goes_cases p h = ⊎_elim (λ e. inl (ltb-true _ _ e)) (λ e. inr (ltb-true _ _ e)) (or_cases (ltb (p + 1) (places r)) (ltb r.back (places r)) h)

  -- an arc is taken at a position exactly where the path goes on
  pub goes_on : (i : ℕ) → Within (unroll r).len i → Decides (goes r (place r i)) (Within (unroll r).len (suc i))
  goes_on i w =
      ⊎_elim
      (λ loop. (λ _. within_loop (suc i) loop, λ _. goes_loop (place r i) loop))
      (λ line.
      let e = line_place i (from_line i line w) in (
        λ g. to_line (suc i) line (⊎_elim (λ h. omega arith) (λ h. absurd (omega arith)) (goes_cases (place r i) g)),
        λ v. let h = from_line (suc i) line v in goes_mid (place r i) (omega arith),
      ))
      (cases_lt r.back (places r))
