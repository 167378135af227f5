-- Paths and rounds of a graph, as sequences. Assumes nothing.
use Rattle.std.proofs.Common.{◌≡◌, ℕ, zero, suc, ◌+◌, ◌-◌, ◌*◌, ◌/◌, ◌%◌, ◌<◌, ◌≤◌, cond, ltb, sym, refl, ap, ◌∙◌, subst, ⊎_elim, mod-lt, suc-mul, zero-mul, arith}
use native.Mathlib.Nat.{mod-add-div'}
use Rattle.std.proofs.lemmas.Bool.{cases_lt, cond-false, cond-true, le-ltb, lt-ltb}
use Rattle.tableau.specs.Graphs.{Onward, here, step, Round}

abbrev first : {A : Type 0} → A → (ℕ → A) → ℕ → A
first x g zero = x
first x g (suc i) = g i

-- round and round from b to m
abbrev pub spot : ℕ → ℕ → ℕ → ℕ
spot m b zero = b
spot m b (suc i) = cond (ltb (spot m b i) m) (suc (spot m b i)) b

module _ (m b : ℕ) (low : b ≤ m) where
  spot_mid : (i : ℕ) → spot m b i < m → spot m b (suc i) ≡ suc (spot m b i)
  spot_mid i h = cond-true (ltb (spot m b i) m) (suc (spot m b i)) b (lt-ltb (spot m b i) m h)

  spot_end : (i : ℕ) → m ≤ spot m b i → spot m b (suc i) ≡ b
  spot_end i h = cond-false (ltb (spot m b i) m) (suc (spot m b i)) b (le-ltb (spot m b i) m h)

  pub spot_in : (i : ℕ) → (b ≤ spot m b i) × (spot m b i ≤ m)
  spot_in zero = (omega arith, low)
  spot_in (suc i) =
      let q = spot_in i in
      ⊎_elim
      (λ h. let e = spot_mid i h in (omega (arith, q.0), omega arith))
      (λ h. let e = spot_end i h in (omega arith, omega arith))
      (cases_lt (spot m b i) m)

  spot_on : (d i k : ℕ) → i + d ≡ k → spot m b i + d ≤ m → spot m b k ≡ spot m b i + d
  spot_on zero i k e h = let q : i ≡ k = omega arith in subst (λ n. spot m b n ≡ spot m b i + 0) q (omega arith)
  spot_on (suc d) i zero e h = absurd (omega arith)
  spot_on (suc d) i (suc k) e h =
      let q = spot_on d i k (omega arith) (omega arith) in
      spot_mid k (omega arith) ∙ omega arith

  pub spot_again : (i k : ℕ) → i + suc (m - b) ≡ k → spot m b k ≡ spot m b i
  spot_again i k e = let q = spot_in i in go (m - spot m b i) (omega (arith, q.1)) (spot m b i - b) (omega (arith, q.0))
    where
      go : (d : ℕ) → spot m b i + d ≡ m → (n : ℕ) → b + n ≡ spot m b i → spot m b k ≡ spot m b i
      go d ed n en =
          let x = spot_on d i (i + d) refl (omega arith) in
          let y = spot_end (i + d) (omega arith) in
          let z = spot_on n (suc (i + d)) k (omega arith) (omega arith) in
          omega arith

  pub spot_all : (k : ℕ) → b ≤ k → k ≤ m → (i : ℕ) × (spot m b i ≡ k)
  spot_all k lo hi = let x = spot_on (k - b) 0 (k - b) (omega arith) (omega arith) in (k - b, omega arith)

module _ (X : Type 0) (Edge : X → X → Type 0) where
  pub onward : (m : ℕ) (a : ℕ → X) → ((i : ℕ) → i < m → Edge (a i) (a (suc i))) → (k : ℕ) → k ≤ m → (d i : ℕ) → i + d ≡ k → Onward X Edge (a k) (a i)
  onward m a mid k h zero i e = let q : i ≡ k = omega arith in subst (λ n. Onward X Edge (a k) (a n)) (sym q) here
  onward m a mid k h (suc d) i e = step (a (suc i)) (mid i (omega arith)) (onward m a mid k h d (suc i) (omega arith))

  pub rounds : (m b : ℕ) (a : ℕ → X) → b ≤ m → ((i : ℕ) → i < m → Edge (a i) (a (suc i))) → Edge (a m) (a b) → Round X Edge (λ i. a (spot m b i)) (suc (m - b))
  rounds m b a low mid last = record {
    period = omega arith;
    again = λ i. ap a (spot_again m b low i (i + suc (m - b)) refl);
    arcs = λ i.
        ⊎_elim
        (λ h. subst (λ k. Edge (a (spot m b i)) (a k)) (sym (spot_mid m b low i h)) (mid (spot m b i) h))
        (λ h.
        let e : spot m b i ≡ m = omega (arith, (spot_in m b low i).1) in
        subst (λ k. Edge (a (spot m b i)) (a k)) (sym (spot_end m b low i h)) (subst (λ k. Edge (a k) (a b)) (sym e) last))
        (cases_lt (spot m b i) m);
  }

  module _ (At : ℕ → X → X → Type 0) (of : (x y : X) → Edge x y → (t : ℕ) × At t x y) where
    -- a path to y
    abbrev pub Line : X → X → Type 0
    Line y x = (m : ℕ) × (a : ℕ → X) × (t : ℕ → ℕ) × (a 0 ≡ x) × (a m ≡ y) × ((i : ℕ) → i < m → At (t i) (a i) (a (suc i)))

    pub lined : (y x : X) → Onward X Edge y x → Line y x
    lined y x here = (0, (λ _. x), (λ _. 0), refl, refl, (λ i h. absurd (omega arith)))
    lined y x (step x' e rest) = more (of x x' e) (lined y x' rest)
      where
        more : (t : ℕ) × At t x x' → Line y x' → Line y x
        more (u, at) (m, a, t, ex, ey, mid) = (suc m, first x a, first u t, refl, ey, go)
          where
            go : (i : ℕ) → i < suc m → At (first u t i) (first x a i) (first x a (suc i))
            go zero h = subst (λ z. At u x z) (sym ex) at
            go (suc i) h = mid i (omega arith)

    -- a path into a round
    abbrev pub Loop : (ℕ → X) → X → Type 0
    Loop w x =
        (m b : ℕ) × (a : ℕ → X) × (t : ℕ → ℕ) × (a 0 ≡ x) × (b ≤ m) × ((i : ℕ) → i < m → At (t i) (a i) (a (suc i))) × At (t m) (a m) (a b)
        × ((i : ℕ) → (k : ℕ) × (b ≤ k) × (k ≤ m) × (a k ≡ w i))

    module _ (w : ℕ → X) where
      turns : (p : ℕ) → ((i : ℕ) → w (i + p) ≡ w i) → (q r i : ℕ) → r + q * p ≡ i → w i ≡ w r
      turns p again zero r i e = let z = zero-mul p in ap w (omega arith)
      turns p again (suc q) r i e =
          let z = suc-mul q p in
          let y : i ≡ (r + q * p) + p = omega arith in
          ap w y ∙ (again (r + q * p) ∙ turns p again q r (r + q * p) refl)

      ring : (p : ℕ) → Round X Edge w p → Loop w (w 0)
      ring zero r = absurd (omega (arith, r.period))
      ring (suc m) r = (
        m,
        0,
        w,
        (λ i. (of (w i) (w (suc i)) (r.arcs i)).0),
        refl,
        omega arith,
        (λ i h. (of (w i) (w (suc i)) (r.arcs i)).1),
        subst (λ x. At (of (w m) (w (suc m)) (r.arcs m)).0 (w m) x) back (of (w m) (w (suc m)) (r.arcs m)).1,
        (λ i.
            let l : i % suc m < suc m = mod-lt i (omega arith) in
            (i % suc m, omega arith, omega arith, sym (turns (suc m) r.again (i / suc m) (i % suc m) i (mod-add-div' i (suc m))))),
      )
        where
          back : w (suc m) ≡ w 0
          back = let e : suc m ≡ 0 + suc m = omega arith in ap w e ∙ r.again 0

      pub looped : (p : ℕ) → Round X Edge w p → (x : X) → Onward X Edge (w 0) x → Loop w x
      looped p r x here = ring p r
      looped p r x (step x' e rest) = more (of x x' e) (looped p r x' rest)
        where
          more : (t : ℕ) × At t x x' → Loop w x' → Loop w x
          more (u, at) (m, b, a, t, ex, low, mid, last, cover) =
              (suc m, suc b, first x a, first u t, refl, omega arith, go, last, (λ i. let q = cover i in (suc q.0, omega (arith, q.1), omega (arith, q.2), q.3)))
            where
              go : (i : ℕ) → i < suc m → At (first u t i) (first x a i) (first x a (suc i))
              go zero h = subst (λ z. At u x z) (sym ex) at
              go (suc i) h = mid i (omega arith)
