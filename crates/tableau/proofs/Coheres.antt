-- Atoms along a path say what holds on it. Assumes nothing.
use Rattle.std.proofs.Common.{◌≡◌, ℕ, zero, suc, ◌+◌, ◌-◌, ◌<◌, ◌≤◌, true, not, ◌&&◌, ◌⊎◌, Decides, sym, refl, ◌∙◌, subst, inl, inr, ⊎_elim, arith}
use Rattle.std.proofs.lemmas.Bool.{and_from, and_parts, both_ways, cases_eq, cases_lt, not-true, or_cases, or_left, or_right}
use Rattle.std.proofs.lemmas.Bool.Decides.{Decides-at, Decides-eqb, Decides-not, Decides-or}
use Rattle.formula.specs.Atoms.{Atom, value}
use Rattle.formula.specs.Ltl.{Ltl, top, fact, enabled, taken, neg, or, next, until}
use Rattle.meaning.specs.Paths.{Len, endless, ends, Within, Path, Holds}
use Rattle.meaning.specs.Systems.{System}
use Rattle.tableau.specs.Along.{Along}
use Rattle.tableau.specs.Claims.{Coherence}
use Rattle.tableau.proofs.Arcs.{bears_decides}
use Rattle.tableau.proofs.Fairness.{fair_or_left, fair_or_right, fair_until_left, fair_until_right, fair_until_own}

pub within_cases : (l : Len) (i : ℕ) → Within l i ⊎ (Within l i → ⊥)
within_cases endless i = inl tt
within_cases (ends n) i = ⊎_elim (λ h. inl h) (λ h. inr (λ w. omega arith)) (cases_lt i n)

pub within_back : (l : Len) (i j : ℕ) → i ≤ j → Within l j → Within l i
within_back endless i j h w = tt
within_back (ends n) i j h w = omega arith

-- a path has no end, or a last position from each position on
pub last_cases : (l : Len) (i : ℕ) → Within l i → ((k : ℕ) → Within l k) ⊎ ((k : ℕ) × (i ≤ k) × Within l k × (Within l (suc k) → ⊥))
last_cases endless i w = inl (λ k. tt)
last_cases (ends n) i w = inr (n - 1, omega arith, omega arith, λ v. omega arith)

module _ (M : System) (π : Path) where
  abbrev Coheres : (f : Ltl) → (ℕ → Atom f) → Type 0
  Coheres f a = (i : ℕ) → Within π.len i → Decides (value f (a i)) (Holds M π i f)

  module _ (f g : Ltl) (a : ℕ → Atom (until f g)) (al : Along M π (until f g) a) (cf : Coheres f (λ i. (a i).1)) (cg : Coheres g (λ i. (a i).2)) where
    -- at k a U that holds is at its goal
    abbrev Stops : ℕ → Type 0
    Stops k = value (until f g) (a k) ≡ true → value g (a k).2 ≡ true

    stops : (i : ℕ) → Within π.len i → (k : ℕ) × (i ≤ k) × Within π.len k × Stops k
    stops i w = ⊎_elim fair last (last_cases π.len i w)
      where
        fair : ((k : ℕ) → Within π.len k) → (k : ℕ) × (i ≤ k) × Within π.len k × Stops k
        fair all =
            let (k, h, e) = fair_until_own f g a (al.fair all) i in
            (k, h, all k, λ u. ⊎_elim (λ no. absurd (both_ways (value (until f g) (a k)) (not-true _ no) u)) (λ e. e) (or_cases (not (value (until f g) (a k))) (value g (a k).2) e))

        last : ((k : ℕ) × (i ≤ k) × Within π.len k × (Within π.len (suc k) → ⊥)) → (k : ℕ) × (i ≤ k) × Within π.len k × Stops k
        last l =
            let e = (al.stops l.0 l.2 l.3).0 in (
              l.0,
              l.1,
              l.2,
              λ u.
                  ⊎_elim (λ x. x) (λ x. absurd (both_ways (a l.0).0 e (and_parts (value f (a l.0).1) (a l.0).0 x).1))
                  (or_cases (value g (a l.0).2) (value f (a l.0).1 && (a l.0).0) u),
            )

    walk : (k d i : ℕ) → i + d ≡ k → Within π.len k → Stops k → value (until f g) (a i) ≡ true → Holds M π i (until f g)
    walk k zero i e w s u =
        let e' : i ≡ k = omega arith in
        (k, omega arith, w, (cg k w).0 (s (subst (λ n. value (until f g) (a n) ≡ true) e' u)), λ j lo hi. absurd (omega arith))
    walk k (suc d) i e w s u =
        let wi = within_back π.len i k (omega arith) w in
        let w' = within_back π.len (suc i) k (omega arith) w in
        ⊎_elim
        (λ x. (i, omega arith, wi, (cg i wi).0 x, λ j lo hi. absurd (omega arith)))
        (λ x.
        let both = and_parts (value f (a i).1) (a i).0 x in
        let rest = walk k d (suc i) (omega arith) w s (sym (al.follows i w').0 ∙ both.1) in (
          rest.0,
          omega (arith, rest.1),
          rest.2,
          rest.3,
          λ j lo hi.
              ⊎_elim (λ e. subst (λ n. Holds M π n f) e ((cf i wi).0 both.0)) (λ ne. rest.4 j (omega arith) hi) (cases_eq i j),
        ))
        (or_cases (value g (a i).2) (value f (a i).1 && (a i).0) u)

    back : (k d i : ℕ) → i + d ≡ k → Within π.len k → Holds M π k g → ((j : ℕ) → i ≤ j → j < k → Holds M π j f) → value (until f g) (a i) ≡ true
    back k zero i e w hg hf =
        let e' : k ≡ i = omega arith in
        subst (λ n. value (until f g) (a n) ≡ true) e' (or_left (value g (a k).2) (value f (a k).1 && (a k).0) ((cg k w).1 hg))
    back k (suc d) i e w hg hf =
        let wi = within_back π.len i k (omega arith) w in
        let w' = within_back π.len (suc i) k (omega arith) w in
        let rest = back k d (suc i) (omega arith) w hg (λ j lo hi. hf j (omega arith) hi) in
        or_right (value g (a i).2) (value f (a i).1 && (a i).0)
        (and_from (value f (a i).1) (a i).0 ((cf i wi).1 (hf i (omega arith) (omega arith))) ((al.follows i w').0 ∙ rest))

    until_coheres : Coheres (until f g) a
    until_coheres i w = (
      λ u. let s = stops i w in walk s.0 (s.0 - i) i (omega (arith, s.1)) s.2 s.3 u,
      λ h. back h.0 (h.0 - i) i (omega (arith, h.1)) h.2 h.3 h.4,
    )

  coheres : (f : Ltl) (a : ℕ → Atom f) → Along M π f a → Coheres f a
  coheres top a al i w = (λ _. tt, λ _. refl)
  coheres (fact p) a al i w = Decides-at _ _ (al.fits i w) (Decides-eqb _ 1)
  coheres (enabled t) a al i w = Decides-at _ _ (al.fits i w) (bears_decides t _)
  coheres (taken t) a al i w =
      ⊎_elim
      (λ w'. Decides-at _ _ (al.follows i w') (λ e. (w', (Decides-eqb (π.event i) t).0 e), λ h. (Decides-eqb (π.event i) t).1 h.1))
      (λ no'. (λ e. absurd (both_ways (a i) (al.stops i w no') e), λ h. absurd (no' h.0)))
      (within_cases π.len (suc i))
  coheres (neg f) a al i w =
      Decides-not _ (coheres f a (record { fits = al.fits; follows = al.follows; stops = al.stops; fair = al.fair }) i w)
  coheres (or f g) a al i w =
      Decides-or _ _
      (coheres f (λ i. (a i).0) (record { fits = λ i w. (al.fits i w).0; follows = λ i w. (al.follows i w).0; stops = λ i w n. (al.stops i w n).0; fair = λ all. fair_or_left f g a (al.fair all) }) i w)
      (coheres g (λ i. (a i).1) (record { fits = λ i w. (al.fits i w).1; follows = λ i w. (al.follows i w).1; stops = λ i w n. (al.stops i w n).1; fair = λ all. fair_or_right f g a (al.fair all) }) i w)
  coheres (next f) a al i w =
      let cf : Coheres f (λ i. (a i).1) = coheres f (λ i. (a i).1) (record { fits = al.fits; follows = λ i w. (al.follows i w).1; stops = λ i w n. (al.stops i w n).1; fair = al.fair }) in
      ⊎_elim
      (λ w'. Decides-at _ _ (al.follows i w').0 (λ e. (w', (cf (suc i) w').0 e), λ h. (cf (suc i) w').1 h.1))
      (λ no'. (λ e. absurd (both_ways (a i).0 (al.stops i w no').0 e), λ h. absurd (no' h.0)))
      (within_cases π.len (suc i))
  coheres (until f g) a al i w =
      until_coheres f g a al
      (coheres f (λ i. (a i).1) (record { fits = λ i w. (al.fits i w).0; follows = λ i w. (al.follows i w).1; stops = λ i w n. (al.stops i w n).1; fair = λ all. fair_until_left f g a (al.fair all) }))
      (coheres g (λ i. (a i).2) (record { fits = λ i w. (al.fits i w).1; follows = λ i w. (al.follows i w).2; stops = λ i w n. (al.stops i w n).2; fair = λ all. fair_until_right f g a (al.fair all) }))
      i w

pub coherence : Coherence
coherence M π f a al i w = coheres M π f a al i w
