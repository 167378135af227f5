-- The test of a formula at a place is right. Assumes nothing.
use Rattle.std.proofs.Common.{◌≡◌, ℕ, zero, suc, ◌+◌, ◌-◌, ◌<◌, ◌≤◌, true, ◌||◌, eqb, ◌⊎◌, List, [], ◌∷◌, length, get_or, Decides, sym, refl, subst, inl, inr, ⊎_elim, arith}
use Rattle.std.proofs.lemmas.Bool.{cases_eq, and_parts, and_from, false≢true}
use Rattle.std.proofs.lemmas.Bool.Decides.{Decides-eqb, Decides-not, Decides-and, Decides-or, Decides-like}
use Rattle.formula.specs.Ltl.{Ltl, top, fact, enabled, taken, neg, or, next, until}
use Rattle.meaning.specs.declared.Arc.{Arc}
use Rattle.meaning.specs.Systems.{System, no_arc}
use Rattle.meaning.specs.Paths.{Within, Holds}
use Rattle.meaning.specs.Runs.{Run, places, event_at, after, place, unroll}
use Rattle.meaning.specs.Truth.{goes, truth, bears}
use Rattle.meaning.specs.Claims.{Decided}
use Rattle.meaning.proofs.Places.{goes_on, inside, down}
use Rattle.meaning.proofs.Sweeps.{Soon, here, later, until_decides}

abbrev Bears : ℕ → List Arc → Type 0
Bears t xs = (j : ℕ) × (j < length xs) × ((get_or xs j no_arc).event ≡ t)

bears_decides : (t : ℕ) (xs : List Arc) → Decides (bears t xs) (Bears t xs)
bears_decides t [] = (λ h. absurd (false≢true h), λ b. absurd (omega (arith, b.1)))
bears_decides t (x ∷ xs) =
    Decides-like (eqb x.event t || bears t xs) to from (Decides-or (eqb x.event t) (bears t xs) (Decides-eqb x.event t) (bears_decides t xs))
  where
    to : (x.event ≡ t) ⊎ Bears t xs → Bears t (x ∷ xs)
    to (inl e) = (0, omega arith, e)
    to (inr b) = (suc b.0, omega (arith, b.1), b.2)

    split : (j : ℕ) → j < length (x ∷ xs) → (get_or (x ∷ xs) j no_arc).event ≡ t → (x.event ≡ t) ⊎ Bears t xs
    split zero h e = inl e
    split (suc j) h e = inr (j, omega arith, e)

    from : Bears t (x ∷ xs) → (x.event ≡ t) ⊎ Bears t xs
    from b = split b.0 b.1 b.2

module _ (M : System) (r : Run) (some : 0 < places r) where
  abbrev Right : Ltl → Type 0
  Right f = (i : ℕ) → Within (unroll r).len i → Decides (truth M r f (place r i)) (Holds M (unroll r) i f)

  -- Within is kept going back
  back_to : (i j : ℕ) → i ≤ j → Within (unroll r).len j → Within (unroll r).len i
  back_to i zero h w = subst (Within (unroll r).len) (omega arith) w
  back_to i (suc j) h w = ⊎_elim (λ e. subst (Within (unroll r).len) (sym e) w) (λ ne. back_to i j (omega arith) (down r j w)) (cases_eq i (suc j))

  module _ (f g : Ltl) (rf : Right f) (rg : Right g) where
    to_holds : (k i : ℕ) → Within (unroll r).len i → Soon r (truth M r f) (truth M r g) k (place r i) → Holds M (unroll r) i (until f g)
    to_holds zero i w (here x) = (i, omega arith, w, (rg i w).0 x, λ j lo hi. absurd (omega arith))
    to_holds (suc k) i w (later x on s) =
        let w' = (goes_on r i w).0 on in
        let rest = to_holds k (suc i) w' s in (
          rest.0,
          omega (arith, rest.1),
          rest.2,
          rest.3,
          λ j lo hi.
              ⊎_elim (λ e. subst (λ n. Holds M (unroll r) n f) e ((rf i w).0 x)) (λ ne. rest.4 j (omega arith) hi) (cases_eq i j),
        )

    to_soon : (d k i : ℕ) → i + d ≡ k → Within (unroll r).len k → Holds M (unroll r) k g → ((j : ℕ) → i ≤ j → j < k → Holds M (unroll r) j f) → Soon r (truth M r f) (truth M r g) d (place r i)
    to_soon zero k i e w hg hf = let e' : i ≡ k = omega arith in here (subst (λ n. truth M r g (place r n) ≡ true) (sym e') ((rg k w).1 hg))
    to_soon (suc d) k i e w hg hf =
        let wi = back_to i k (omega arith) w in
        let w' = back_to (suc i) k (omega arith) w in
        later ((rf i wi).1 (hf i (omega arith) (omega arith))) ((goes_on r i wi).1 w') (to_soon d k (suc i) (omega arith) w hg (λ j lo hi. hf j (omega arith) hi))

    until_right : Right (until f g)
    until_right i w =
        Decides-like _
        (λ ev. to_holds ev.0 i w ev.1)
        (λ h. (h.0 - i, to_soon (h.0 - i) h.0 i (omega (arith, h.1)) h.2 h.3 h.4))
        (until_decides r (truth M r f) (truth M r g) (place r i) (inside r some i w))

  right : (f : Ltl) → Right f
  right top i w = (λ _. tt, λ _. refl)
  right (fact p) i w = Decides-eqb _ 1
  right (enabled t) i w = bears_decides t _
  right (taken t) i w = Decides-and (goes r (place r i)) (eqb (event_at r (place r i)) t) (goes_on r i w) (Decides-eqb _ t)
  right (neg f) i w = Decides-not _ (right f i w)
  right (or f g) i w = Decides-or _ _ (right f i w) (right g i w)
  right (next f) i w = next_right (right f) i w
    where
      next_right : Right f → Right (next f)
      next_right rf i w =
          let on = goes_on r i w in (
            λ h. let both = and_parts (goes r (place r i)) (truth M r f (after r (place r i))) h in let w' = on.0 both.0 in (w', (rf (suc i) w').0 both.1),
            λ h. and_from (goes r (place r i)) (truth M r f (after r (place r i))) (on.1 h.0) ((rf (suc i) h.0).1 h.1),
          )
  right (until f g) i w = until_right f g (right f) (right g) i w

pub decided : Decided
decided M r f some i w = right M r some f i w
