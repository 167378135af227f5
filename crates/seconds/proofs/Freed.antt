-- The free part as a graph. Assumes nothing.
use Rattle.std.proofs.Common.{◌≡◌, ℕ, suc, ◌+◌, ◌-◌, ◌<◌, Bool, true, false, ◌&&◌, sym, refl, ap, subst, inl, inr, ⊎_elim, arith}
use Rattle.std.proofs.lemmas.Bool.{and_from, and_parts, cases_lt, not-true}
use Rattle.formula.specs.Atoms.{Atom, value}
use Rattle.formula.specs.Ltl.{Ltl, top, fact, enabled, taken, neg, or, next, until}
use Rattle.tableau.specs.Along.{Follows}
use Rattle.tableau.specs.Graphs.{Onward, Met}
use Rattle.tableau.proofs.Fairness.{met_loop, loop_met}
use Rattle.tableau.proofs.Rounds.{spot, spot_all, onward, rounds, Line, lined, Loop, looped}
use Rattle.seconds.specs.Claims.{FreeEdges, FreePart}
use Rattle.seconds.specs.Free.{Takes, PossibleMove, PossibleEnd, FreeEdge, FreeKept, Continues}
use Rattle.seconds.specs.Tests.{may_move_on, same, steps}
use Rattle.seconds.proofs.Possibles.{tests}

same_to : (x y : Bool) → same x y ≡ true → x ≡ y
same_to true y h = sym h
same_to false y h = sym (not-true y h)

same_from : (x y : Bool) → x ≡ y → same x y ≡ true
same_from x y e = subst (λ z. same x z ≡ true) e (at x)
  where
    at : (x : Bool) → same x x ≡ true
    at true = refl
    at false = refl

follows_steps : (f : Ltl) (t : ℕ) (a b : Atom f) → Follows f t a b → steps f a b ≡ true
follows_steps top t a b h = refl
follows_steps (fact p) t a b h = refl
follows_steps (enabled p) t a b h = refl
follows_steps (taken p) t a b h = refl
follows_steps (neg f) t a b h = follows_steps f t a b h
follows_steps (or f g) t a b h =
    and_from (steps f a.0 b.0) (steps g a.1 b.1) (follows_steps f t a.0 b.0 h.0) (follows_steps g t a.1 b.1 h.1)
follows_steps (next f) t a b h =
    and_from (same a.0 (value f b.1)) (steps f a.1 b.1) (same_from a.0 (value f b.1) h.0) (follows_steps f t a.1 b.1 h.1)
follows_steps (until f g) t a b h =
    and_from (same a.0 (value (until f g) b)) (steps f a.1 b.1 && steps g a.2 b.2) (same_from a.0 (value (until f g) b) h.0)
    (and_from (steps f a.1 b.1) (steps g a.2 b.2) (follows_steps f t a.1 b.1 h.1) (follows_steps g t a.2 b.2 h.2))

steps_follows : (f : Ltl) (t : ℕ) (a b : Atom f) → Takes f t a → steps f a b ≡ true → Follows f t a b
steps_follows top t a b k h = tt
steps_follows (fact p) t a b k h = tt
steps_follows (enabled p) t a b k h = tt
steps_follows (taken p) t a b k h = k
steps_follows (neg f) t a b k h = steps_follows f t a b k h
steps_follows (or f g) t a b k h =
    let p = and_parts (steps f a.0 b.0) (steps g a.1 b.1) h in
    (steps_follows f t a.0 b.0 k.0 p.0, steps_follows g t a.1 b.1 k.1 p.1)
steps_follows (next f) t a b k h =
    let p = and_parts (same a.0 (value f b.1)) (steps f a.1 b.1) h in
    (same_to a.0 (value f b.1) p.0, steps_follows f t a.1 b.1 k p.1)
steps_follows (until f g) t a b k h =
    let p = and_parts (same a.0 (value (until f g) b)) (steps f a.1 b.1 && steps g a.2 b.2) h in
    let q = and_parts (steps f a.1 b.1) (steps g a.2 b.2) p.1 in
    (same_to a.0 (value (until f g) b) p.0, steps_follows f t a.1 b.1 k.0 q.0, steps_follows g t a.2 b.2 k.1 q.1)

pub free_edges : FreeEdges
free_edges E f a b = (
  λ h.
      let p = and_parts (may_move_on E f a) (steps f a b) h in
      let q = (tests.some E f a).0 p.0 in
      (q.0, q.1, steps_follows f q.0 a b q.1.6 p.1),
  λ e. and_from (may_move_on E f a) (steps f a b) ((tests.some E f a).1 (e.0, e.1)) (follows_steps f e.0 a b e.2),
)

module _ (E : ℕ) (f : Ltl) where
  abbrev At : ℕ → Atom f → Atom f → Type 0
  At t a b = PossibleMove E f t a × Follows f t a b

  of : (x y : Atom f) → FreeEdge E f x y → (t : ℕ) × At t x y
  of x y e = (e.0, (e.1, e.2))

  kept : (z : Atom f) → Continues E f z → FreeKept E f z
  kept z (m, b, a, t, e, lasso) =
      ⊎_elim
      (λ over.
      inl (
        a m,
        subst (λ x. Onward (Atom f) (FreeEdge E f) (a m) x) e (onward (Atom f) (FreeEdge E f) m a mid m (omega arith) m 0 (omega arith)),
        lasso.stops (omega (arith, lasso.low)),
      ))
      (λ low.
      let l = lasso.loops low in
      inr (
        (λ i. a (spot m b i)),
        suc (m - b),
        subst (λ x. Onward (Atom f) (FreeEdge E f) (a b) x) e (onward (Atom f) (FreeEdge E f) m a mid b low b 0 (omega arith)),
        rounds (Atom f) (FreeEdge E f) m b a low mid (t m, l.0, l.1),
        loop_met f b m a (λ i. a (spot m b i)) (λ k lo hi. let q = spot_all m b low k lo hi in (q.0, ap a q.1)) l.2,
      ))
      (cases_lt m b)
    where
      mid : (i : ℕ) → i < m → FreeEdge E f (a i) (a (suc i))
      mid i h = (t i, (lasso.moves i h).0, (lasso.moves i h).1)

  from_end : (z y : Atom f) → PossibleEnd f y → Line (Atom f) (FreeEdge E f) At of y z → Continues E f z
  from_end z y end (m, a, t, ex, ey, mid) = (
    m,
    m + 1,
    a,
    t,
    ex,
    record {
      low = omega arith;
      moves = mid;
      loops = λ h. absurd (omega arith);
      stops = λ _. subst (PossibleEnd f) (sym ey) end;
    },
  )

  from_round : (z : Atom f) (w : ℕ → Atom f) → Met f w → Loop (Atom f) (FreeEdge E f) At of w z → Continues E f z
  from_round z w met (m, b, a, t, ex, low, mid, last, cover) = (
    m,
    b,
    a,
    t,
    ex,
    record {
      low = omega arith;
      moves = mid;
      loops = λ _. (last.0, last.1, met_loop f b m w a cover met);
      stops = λ h. absurd (omega arith);
    },
  )

  from_kept : (z : Atom f) → FreeKept E f z → Continues E f z
  from_kept z (inl (y, path, end)) = from_end z y end (lined (Atom f) (FreeEdge E f) At of y z path)
  from_kept z (inr (w, p, path, ring, met)) = from_round z w met (looped (Atom f) (FreeEdge E f) At of w p ring z path)

pub free_part : FreePart
free_part E f z = (kept E f z, from_kept E f z)
