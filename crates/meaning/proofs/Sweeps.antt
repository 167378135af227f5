-- The two sweeps of a U over a run's places are right. Assumes nothing.
use Rattle.std.proofs.Common.{◌≡◌, ℕ, zero, suc, ◌+◌, ◌-◌, ◌<◌, Bool, true, false, ◌&&◌, Decides, sym, refl, subst, ⊎_elim, arith}
use Rattle.std.proofs.lemmas.Bool.{both_ways, or_cases, or_parts, and_parts, and_cases, cases_Bool}
use Rattle.meaning.specs.Runs.{Run, places, after}
use Rattle.meaning.specs.Truth.{goes, sweep}
use Rattle.meaning.proofs.Places.{after_mid, after_last, goes_loop, goes_mid, goes_cases}

-- g at the place that k steps from p lead to, and f at every place passed before
pub data Soon (r : Run) (f g : ℕ → Bool) : ℕ → ℕ → Type 0 where
  here : {p : ℕ} → g p ≡ true → Soon r f g zero p
  later : {k p : ℕ} → f p ≡ true → goes r p ≡ true → Soon r f g k (after r p) → Soon r f g (suc k) p

abbrev pub Ever : Run → (ℕ → Bool) → (ℕ → Bool) → ℕ → Type 0
Ever r f g p = (k : ℕ) × Soon r f g k p

module _ (r : Run) (f g : ℕ → Bool) where
  found : (last : Bool) → (last ≡ true → (r.back < places r) × Ever r f g r.back) → (d p : ℕ) → p + suc d ≡ places r → sweep f g last (suc d) p ≡ true → Ever r f g p
  found last more zero p e h =
      ⊎_elim (λ x. (0, here x))
      (λ x.
      let both = and_parts (f p) last x in
      let on = more both.1 in
      (suc on.1.0, later both.0 (goes_loop r p on.0) (subst (Soon r f g on.1.0) (sym (after_last r p (omega arith))) on.1.1)))
      (or_cases (g p) (f p && last) h)
  found last more (suc d) p e h =
      ⊎_elim (λ x. (0, here x))
      (λ x.
      let both = and_parts (f p) (sweep f g last (suc d) (p + 1)) x in
      let on = found last more d (p + 1) (omega arith) both.1 in
      (suc on.0, later both.0 (goes_mid r p (omega arith)) (subst (Soon r f g on.0) (sym (after_mid r p (omega arith))) on.1)))
      (or_cases (g p) (f p && sweep f g last (suc d) (p + 1)) h)

  abbrev Round : Bool → ℕ → Type 0
  Round last k = (last ≡ false) × (r.back < places r) × ((k' : ℕ) × (k' < k) × Soon r f g k' r.back)

  -- what a sweep misses goes round
  missed : (last : Bool) (d p k : ℕ) → p + suc d ≡ places r → Soon r f g k p → sweep f g last (suc d) p ≡ false → Round last k
  missed last d p zero e (here x) h = absurd (both_ways (g p) (or_parts (g p) _ h).0 x)
  missed last zero p (suc k) e (later x on s) h =
      let no_rest = ⊎_elim (λ y. absurd (both_ways (f p) y x)) (λ y. y) (and_cases (f p) last (or_parts (g p) _ h).1) in
      (no_rest, ⊎_elim (λ y. absurd (omega arith)) (λ y. y) (goes_cases r p on), (k, omega arith, subst (Soon r f g k) (after_last r p (omega arith)) s))
  missed last (suc d) p (suc k) e (later x on s) h =
      let rest : sweep f g last (suc d) (p + 1) ≡ false = ⊎_elim (λ y. absurd (both_ways (f p) y x)) (λ y. y) (and_cases (f p) (sweep f g last (suc d) (p + 1)) (or_parts (g p) _ h).1) in
      let m = missed last d (p + 1) k (omega arith) (subst (Soon r f g k) (after_mid r p (omega arith)) s) rest in
      (m.0, m.1, (m.2.0, omega (arith, m.2.1), m.2.2))

  -- round and round: nothing is found in a loop that one sweep misses
  never : (d : ℕ) → r.back + suc d ≡ places r → sweep f g false (suc d) r.back ≡ false → (n k : ℕ) → k < n → Soon r f g k r.back → ⊥
  never d e h zero k lt s = omega arith
  never d e h (suc n) k lt s =
      let m = missed false d r.back k e s h in
      never d e h n m.2.0 (omega (arith, m.2.1)) m.2.2

  again : Bool
  again = sweep f g false (places r - r.back) r.back

  pub until_decides : (p : ℕ) → p < places r → Decides (sweep f g (sweep f g false (places r - r.back) r.back) (places r - p) p) (Ever r f g p)
  until_decides p h = go (places r - p - 1) (places r - p) (omega arith) (omega arith) (places r - r.back) (omega arith)
    where
      loops : (n : ℕ) → places r - r.back ≡ n → sweep f g false n r.back ≡ true → (r.back < places r) × Ever r f g r.back
      loops zero e x = absurd (both_ways false refl x)
      loops (suc n) e x = (omega arith, found false (λ y. absurd (both_ways false refl y)) n r.back (omega arith) x)

      none : (n : ℕ) → places r - r.back ≡ n → sweep f g false n r.back ≡ false → r.back < places r → (k : ℕ) → Soon r f g k r.back → ⊥
      none zero e x lt k s = omega arith
      none (suc n) e x lt k s = never n (omega arith) x (suc k) k (omega arith) s

      go : (d n : ℕ) → n ≡ suc d → p + n ≡ places r → (b : ℕ) → places r - r.back ≡ b → Decides (sweep f g (sweep f g false b r.back) n p) (Ever r f g p)
      go d n e q b eb =
          subst (λ n. Decides (sweep f g (sweep f g false b r.back) n p) (Ever r f g p)) (sym e) (
            λ x. found (sweep f g false b r.back) (loops b eb) d p (omega arith) x,
            λ ev. ⊎_elim (λ t. t) (λ t.
                let m = missed (sweep f g false b r.back) d p ev.0 (omega arith) ev.1 t in
                absurd (none b eb m.0 m.1 m.2.0 m.2.2)) (cases_Bool (sweep f g (sweep f g false b r.back) (suc d) p)),
          )
