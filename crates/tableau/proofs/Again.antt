-- Places of a run that come again and again. Assumes nothing.
use Rattle.std.proofs.Common.{◌≡◌, ℕ, zero, suc, ◌+◌, ◌-◌, ◌<◌, ◌≤◌, sym, refl, ◌∙◌, subst, ⊎_elim, arith}
use Rattle.std.proofs.lemmas.Bool.{cases_eq, cases_lt}
use Rattle.meaning.specs.Paths.{Within}
use Rattle.meaning.specs.Runs.{Run, places, after, place, unroll}
use Rattle.meaning.proofs.Places.{after_mid, after_last, within_loop, to_line, loop_place, line_place}

module _ (r : Run) where
  pub advance : (d i k : ℕ) → i + d ≡ k → place r i + d < places r → place r k ≡ place r i + d
  advance zero i k e h = let q : i ≡ k = omega arith in subst (λ n. place r n ≡ place r i + 0) q (omega arith)
  advance (suc d) i zero e h = absurd (omega arith)
  advance (suc d) i (suc k) e h =
      let q = advance d i k (omega arith) (omega arith) in
      after_mid r (place r k) (omega arith) ∙ omega arith

  -- after the last place
  pub turned : (i : ℕ) → place r i + 1 ≡ places r → place r (suc i) ≡ r.back
  turned i h = after_last r (place r i) (omega arith)

  -- every place of the loop comes again and again
  pub recurs : 0 < places r → r.back < places r → (i k : ℕ) → r.back ≤ k → k < places r → (i' : ℕ) × (i ≤ i') × (place r i' ≡ k)
  recurs some loop i k lo hi = let inb = loop_place r some loop i in go (places r - 1 - place r i) (omega arith) (k - r.back) (omega arith)
    where
      go : (d : ℕ) → place r i + d + 1 ≡ places r → (e : ℕ) → r.back + e ≡ k → (i' : ℕ) × (i ≤ i') × (place r i' ≡ k)
      go d ed e ee =
          let p = advance d i (i + d) refl (omega arith) in
          let q = turned (i + d) (omega arith) in
          let z = advance e (suc (i + d)) (suc (i + d) + e) refl (omega arith) in
          (suc (i + d) + e, omega arith, omega arith)

module _ (r : Run) (some : 0 < places r) where
  pub within_all : (p : ℕ) → p < places r → Within (unroll r).len p
  within_all p h = ⊎_elim (λ loop. within_loop r p loop) (λ line. to_line r p line h) (cases_lt r.back (places r))

  stays : (p : ℕ) → r.back ≤ p → r.back ≤ after r p
  stays p h =
      ⊎_elim
      (λ mid. subst (λ k. r.back ≤ k) (sym (after_mid r p mid)) (omega arith))
      (λ end. subst (λ k. r.back ≤ k) (sym (after_last r p end)) (omega arith))
      (cases_lt (p + 1) (places r))

  pub looping : r.back < places r → (i : ℕ) → r.back ≤ i → r.back ≤ place r i
  looping loop zero h = h
  looping loop (suc i) h =
      ⊎_elim
      (λ e. let q = line_place r (suc i) (omega arith) in omega arith)
      (λ ne. stays (place r i) (looping loop i (omega (arith, ne))))
      (cases_eq r.back (suc i))
