-- A run violates a formula exactly where it has a lasso of atoms. Assumes nothing.
use Rattle.std.proofs.Common.{◌≡◌, ℕ, suc, ◌+◌, ◌-◌, ◌<◌, ◌≤◌, true, false, sym, refl, ◌∙◌, subst, ⊎_elim, arith}
use Rattle.std.proofs.lemmas.Bool.{cases_Bool, cases_lt}
use Rattle.std.proofs.lemmas.Bool.Decides.{not_from_Decides}
use Rattle.formula.specs.Atoms.{Atom, value}
use Rattle.formula.specs.Ltl.{Ltl}
use Rattle.meaning.specs.Paths.{Within}
use Rattle.meaning.specs.Runs.{Run, places, state_at, event_at, Closes, round, stuck, IsRun, after, place, unroll, Violates}
use Rattle.meaning.specs.Systems.{System, HasArc, Deadlock}
use Rattle.meaning.specs.Truth.{goes}
use Rattle.meaning.proofs.Examples.{start}
use Rattle.meaning.proofs.Places.{after_mid, after_last, within_loop, from_line, to_line, loop_place, line_place, inside, goes_cases}
use Rattle.tableau.specs.Along.{Fits, Follows, Ends, Along}
use Rattle.tableau.specs.Claims.{RunPart}
use Rattle.tableau.specs.Lassos.{truths, Lasso}
use Rattle.tableau.proofs.Again.{recurs, within_all, looping}
use Rattle.tableau.proofs.Coheres.{within_back, coherence}
use Rattle.tableau.proofs.Exists.{along}
use Rattle.tableau.proofs.Fairness.{fair_found, fair_spread}

module _ (M : System) (r : Run) (some : 0 < places r) (low : r.back ≤ places r) (f : Ltl) (v : ℕ → Atom f) where
  pub along_lasso : Lasso M r f v → Along M (unroll r) f (λ i. v (place r i))
  along_lasso l = record {
    fits = λ i w. l.fits (place r i) (inside r some i w);
    follows = λ i w'. next' i w';
    stops = λ i w stop. last i w stop;
    fair = λ all.
        let loop : r.back < places r = ⊎_elim (λ h. h) (λ line. absurd (let h = from_line r (places r) line (all (places r)) in omega arith)) (cases_lt r.back (places r)) in
        fair_spread f r.back (places r - 1) v (place r) (λ i k lo hi. recurs r some loop i k lo (omega arith)) (l.fair loop);
  }
    where
      next' : (i : ℕ) → Within (unroll r).len (suc i) → Follows f (event_at r (place r i)) (v (place r i)) (v (after r (place r i)))
      next' i w' =
          let w = within_back (unroll r).len i (suc i) (omega arith) w' in
          let h = inside r some i w in
          ⊎_elim
          (λ mid. subst (λ q. Follows f (event_at r (place r i)) (v (place r i)) (v q)) (sym (after_mid r (place r i) mid)) (l.steps (place r i) mid))
          (λ end.
          let e : places r - 1 ≡ place r i = omega arith in
          let e' = after_last r (place r i) end in
          ⊎_elim
          (λ loop.
          subst (λ q. Follows f (event_at r (place r i)) (v (place r i)) (v q)) (sym e')
          (subst (λ p. Follows f (event_at r p) (v p) (v r.back)) e (l.turns loop)))
          (λ line. absurd (let x = from_line r (suc i) line w' in let y = line_place r i (omega arith) in omega arith))
          (cases_lt r.back (places r)))
          (cases_lt (place r i + 1) (places r))

      last : (i : ℕ) → Within (unroll r).len i → (Within (unroll r).len (suc i) → ⊥) → Ends f (v (place r i))
      last i w stop =
          ⊎_elim
          (λ loop. absurd (stop (within_loop r (suc i) loop)))
          (λ line.
          let x = from_line r i line w in
          let y = line_place r i x in
          let z : places r ≤ suc i = ⊎_elim (λ h. absurd (stop (to_line r (suc i) line h))) (λ h. h) (cases_lt (suc i) (places r)) in
          subst (λ p. Ends f (v p)) (omega arith) (l.stops (omega arith)))
          (cases_lt r.back (places r))

  pub lasso_along : Along M (unroll r) f (λ i. v (place r i)) → Lasso M r f v
  lasso_along al = record {
    fits = λ p h. subst (λ q. Fits (M.facts (state_at r q)) (M.arcs (state_at r q)) f (v q)) (line_place r p h) (al.fits p (within_all r some p h));
    steps = λ p h.
        let e = line_place r p (omega arith) in
        subst (λ q. Follows f (event_at r p) (v p) (v q)) (line_place r (suc p) (omega arith) ∙ omega arith)
        (subst (λ q. Follows f (event_at r q) (v q) (v (place r (suc p)))) e (al.follows p (within_all r some (suc p) (omega arith))));
    turns = λ loop.
        let e = line_place r (places r - 1) (omega arith) in
        subst (λ q. Follows f (event_at r (places r - 1)) (v (places r - 1)) (v q)) (after_last r (place r (places r - 1)) (omega arith))
        (subst (λ q. Follows f (event_at r q) (v q) (v (place r (suc (places r - 1))))) e (al.follows (places r - 1) (within_loop r (suc (places r - 1)) loop)));
    stops = λ line.
        let h : places r - 1 < places r = omega arith in
        subst (λ q. Ends f (v q)) (line_place r (places r - 1) h)
        (al.stops (places r - 1) (within_all r some (places r - 1) h) (λ w. let x = from_line r (suc (places r - 1)) (omega arith) w in omega arith));
    fair = λ loop.
        fair_found f r.back r.back (places r - 1) (λ i. v (place r i)) v
        (λ i lo. let q = loop_place r some loop i in (place r i, looping r some loop i lo, omega arith, refl))
        (al.fair (λ i. within_loop r i loop));
  }

  pub lasso_violates : Lasso M r f v → value f (v 0) ≡ false → Violates M r f
  lasso_violates l e = not_from_Decides (value f (v 0)) (coherence M (unroll r) f (λ i. v (place r i)) (along_lasso l) 0 (start r some)) e

-- the place that a run leads back to is one of it, or the one past its end
pub low_run : (M : System) (r : Run) → IsRun M r → r.back ≤ places r
low_run M r is = go is.closes
  where
    go : Closes M r → r.back ≤ places r
    go (round h _) = omega arith
    go (stuck e _ _) = omega arith

-- its last arc leads there
pub run_turns : (M : System) (r : Run) → IsRun M r → r.back < places r → HasArc M (state_at r (places r - 1)) (event_at r (places r - 1)) (state_at r r.back)
run_turns M r is loop = go is.closes
  where
    go : Closes M r → HasArc M (state_at r (places r - 1)) (event_at r (places r - 1)) (state_at r r.back)
    go (round _ arc) = arc
    go (stuck e _ _) = absurd (omega arith)

-- or there is none
pub run_stops : (M : System) (r : Run) → IsRun M r → r.back ≡ places r → Deadlock M (state_at r (places r - 1)) × (event_at r (places r - 1) ≡ 64)
run_stops M r is line = go is.closes
  where
    go : Closes M r → Deadlock M (state_at r (places r - 1)) × (event_at r (places r - 1) ≡ 64)
    go (round h _) = absurd (omega arith)
    go (stuck _ dead e) = (dead, e)

-- where an arc is taken, there is one to the place after
pub run_arc : (M : System) (r : Run) → IsRun M r → (p : ℕ) → p < places r → goes r p ≡ true → HasArc M (state_at r p) (event_at r p) (state_at r (after r p))
run_arc M r is p h g =
    ⊎_elim
    (λ mid. subst (λ k. HasArc M (state_at r p) (event_at r p) (state_at r k)) (sym (after_mid r p mid)) (is.steps p mid))
    (λ end.
    let loop : r.back < places r = ⊎_elim (λ x. absurd (omega arith)) (λ x. x) (goes_cases r p g) in
    let e : places r - 1 ≡ p = omega arith in
    subst (λ k. HasArc M (state_at r p) (event_at r p) (state_at r k)) (sym (after_last r p end))
    (subst (λ k. HasArc M (state_at r k) (event_at r k) (state_at r r.back)) e (run_turns M r is loop)))
    (cases_lt (p + 1) (places r))

pub violated_lasso : (M : System) (r : Run) (some : 0 < places r) (low : r.back ≤ places r) (f : Ltl) → Violates M r f
    → Lasso M r f (truths M r f) × (value f (truths M r f 0) ≡ false)
violated_lasso M r some low f bad =
    let al = along M r some f in (
      lasso_along M r some low f (truths M r f) al,
      ⊎_elim (λ e. absurd (bad ((coherence M (unroll r) f (λ i. truths M r f (place r i)) al 0 (start r some)).0 e))) (λ e. e) (cases_Bool (value f (truths M r f 0))),
    )

pub run_part : RunPart
run_part M r f is = (
  λ bad. let l = violated_lasso M r is.some (low_run M r is) f bad in (truths M r f, l.0, l.1),
  λ b. lasso_violates M r is.some (low_run M r is) f b.0 b.1 b.2,
)
