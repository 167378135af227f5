-- The truths at the places of a run are atoms along its path. Assumes nothing.
use Rattle.std.proofs.Common.{◌≡◌, ℕ, suc, ◌<◌, ◌≤◌, Bool, true, false, not, ◌&&◌, ◌||◌, ◌⊎◌, get_or, Decides, sym, refl, ap, ◌∙◌, subst, inl, inr, ⊎_elim, arith}
use Rattle.std.proofs.lemmas.Bool.{and_left, cases_Bool, cases_eq, not_from_false, or_left, or_right}
use Rattle.std.proofs.lemmas.Bool.Decides.{Decides-and, Decides-like, Decides-or, same_from_decides}
use Rattle.formula.specs.Atoms.{value}
use Rattle.formula.specs.Ltl.{Ltl, top, fact, enabled, taken, neg, or, next, until}
use Rattle.meaning.specs.Paths.{Within, Holds}
use Rattle.meaning.specs.Runs.{Run, places, event_at, after, place, unroll}
use Rattle.meaning.specs.Systems.{System}
use Rattle.meaning.specs.Truth.{goes, truth}
use Rattle.meaning.proofs.Places.{goes_on}
use Rattle.meaning.proofs.Right.{decided}
use Rattle.tableau.specs.Along.{Fits, Follows, Ends, Fair, Along}
use Rattle.tableau.specs.Claims.{Existence}
use Rattle.tableau.specs.Lassos.{truths}
use Rattle.tableau.proofs.Coheres.{within_back}
use Rattle.tableau.proofs.Fairness.{fair_or, Own, fair_until}

and_true : (x y : Bool) → x ≡ true → (x && y) ≡ y
and_true x y e = subst (λ (b : Bool). (b && y) ≡ y) (sym e) refl

module _ (M : System) (r : Run) (some : 0 < places r) where
  -- a U at a position by what holds there and at the next
  abbrev Unfolded : Ltl → Ltl → ℕ → Type 0
  Unfolded f g i = Holds M (unroll r) i g ⊎ (Holds M (unroll r) i f × (Within (unroll r).len (suc i) × Holds M (unroll r) (suc i) (until f g)))

  fold : (f g : Ltl) (i : ℕ) → Within (unroll r).len i → Unfolded f g i → Holds M (unroll r) i (until f g)
  fold f g i w (inl h) = (i, omega arith, w, h, λ j lo hi. absurd (omega arith))
  fold f g i w (inr h) =
      let rest = h.1.1 in (
        rest.0,
        omega (arith, rest.1),
        rest.2,
        rest.3,
        λ j lo hi.
            ⊎_elim (λ e. subst (λ n. Holds M (unroll r) n f) e h.0) (λ ne. rest.4 j (omega arith) hi) (cases_eq i j),
      )

  unfolds : (f g : Ltl) (i : ℕ) → Holds M (unroll r) i (until f g) → Unfolded f g i
  unfolds f g i h =
      ⊎_elim
      (λ e. inl (subst (λ n. Holds M (unroll r) n g) (sym e) h.3))
      (λ ne.
      let lt : suc i ≤ h.0 = omega (arith, h.1) in
      inr (
        h.4 i (omega arith) (omega arith),
        (within_back (unroll r).len (suc i) h.0 lt h.2, (h.0, lt, h.2, h.3, λ j lo hi. h.4 j (omega arith) hi)),
      ))
      (cases_eq i h.0)

  -- what the atom of a place says is the truth there
  pub says : (f : Ltl) (i : ℕ) → Within (unroll r).len i → value f (truths M r f (place r i)) ≡ truth M r f (place r i)
  says top i w = refl
  says (fact p) i w = refl
  says (enabled t) i w = refl
  says (taken t) i w = refl
  says (neg f) i w = ap not (says f i w)
  says (or f g) i w = λ k. says f i w k || says g i w k
  says (next f) i w = refl
  says (until f g) i w =
      (λ k. says g i w k || (says f i w k && (goes r (place r i) && truth M r (until f g) (after r (place r i)))))
      ∙ same_from_decides _ _ step (decided M r (until f g) some i w)
    where
      step : Decides (truth M r g (place r i) || (truth M r f (place r i) && (goes r (place r i) && truth M r (until f g) (after r (place r i))))) (Holds M (unroll r) i (until f g))
      step =
          Decides-like _ (fold f g i w) (unfolds f g i)
          (Decides-or _ _ (decided M r g some i w) (Decides-and _ _ (decided M r f some i w) (decided M r (next (until f g)) some i w)))

  fits_of : (f : Ltl) (p : ℕ) → Fits (M.facts (get_or r.states p 0)) (M.arcs (get_or r.states p 0)) f (truths M r f p)
  fits_of top p = tt
  fits_of (fact q) p = refl
  fits_of (enabled t) p = refl
  fits_of (taken t) p = tt
  fits_of (neg f) p = fits_of f p
  fits_of (or f g) p = (fits_of f p, fits_of g p)
  fits_of (next f) p = fits_of f p
  fits_of (until f g) p = (fits_of f p, fits_of g p)

  follows_of : (f : Ltl) (i : ℕ) → Within (unroll r).len i → Within (unroll r).len (suc i) → goes r (place r i) ≡ true
      → Follows f (event_at r (place r i)) (truths M r f (place r i)) (truths M r f (after r (place r i)))
  follows_of top i w w' on = tt
  follows_of (fact q) i w w' on = tt
  follows_of (enabled t) i w w' on = tt
  follows_of (taken t) i w w' on = and_true _ _ on
  follows_of (neg f) i w w' on = follows_of f i w w' on
  follows_of (or f g) i w w' on = (follows_of f i w w' on, follows_of g i w w' on)
  follows_of (next f) i w w' on = (and_true _ _ on ∙ sym (says f (suc i) w'), follows_of f i w w' on)
  follows_of (until f g) i w w' on = (and_true _ _ on ∙ sym (says (until f g) (suc i) w'), follows_of f i w w' on, follows_of g i w w' on)

  ends_of : (f : Ltl) (p : ℕ) → goes r p ≡ false → Ends f (truths M r f p)
  ends_of top p off = tt
  ends_of (fact q) p off = tt
  ends_of (enabled t) p off = tt
  ends_of (taken t) p off = and_left _ _ off
  ends_of (neg f) p off = ends_of f p off
  ends_of (or f g) p off = (ends_of f p off, ends_of g p off)
  ends_of (next f) p off = (and_left _ _ off, ends_of f p off)
  ends_of (until f g) p off = (and_left _ _ off, ends_of f p off, ends_of g p off)

  fair_of : ((i : ℕ) → Within (unroll r).len i) → (f : Ltl) → Fair f (λ i. truths M r f (place r i))
  fair_of all top = λ j l i. absurd (omega arith)
  fair_of all (fact q) = λ j l i. absurd (omega arith)
  fair_of all (enabled t) = λ j l i. absurd (omega arith)
  fair_of all (taken t) = λ j l i. absurd (omega arith)
  fair_of all (neg f) = fair_of all f
  fair_of all (or f g) = fair_or f g (λ i. truths M r (or f g) (place r i)) (fair_of all f) (fair_of all g)
  fair_of all (next f) = fair_of all f
  fair_of all (until f g) = fair_until f g (λ i. truths M r (until f g) (place r i)) again (fair_of all f) (fair_of all g)
    where
      again : Own f g (λ i. truths M r (until f g) (place r i))
      again i =
          ⊎_elim
          (λ e.
          let h = (decided M r (until f g) some i (all i)).0 (sym (says (until f g) i (all i)) ∙ e) in
          (h.0, h.1, or_right _ _ (says g h.0 (all h.0) ∙ (decided M r g some h.0 (all h.0)).1 h.3)))
          (λ e. (i, omega arith, or_left _ _ (not_from_false _ e)))
          (cases_Bool (value (until f g) (truths M r (until f g) (place r i))))

  pub along : (f : Ltl) → Along M (unroll r) f (λ i. truths M r f (place r i))
  along f = record {
    fits = λ i w. fits_of f (place r i);
    follows = λ i w'. let w = within_back (unroll r).len i (suc i) (omega arith) w' in follows_of f i w w' ((goes_on r i w).1 w');
    stops = λ i w stop. ends_of f (place r i) (⊎_elim (λ e. absurd (stop ((goes_on r i w).0 e))) (λ e. e) (cases_Bool (goes r (place r i))));
    fair = λ all. fair_of all f;
  }

pub existence : Existence
existence M r f some = along M r some f
