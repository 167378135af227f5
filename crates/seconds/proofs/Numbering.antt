-- The free part as a graph of numbers. Assumes nothing.
use Rattle.std.proofs.Common.{◌≡◌, ℕ, suc, ◌^◌, ◌<◌, sym, ap, subst, inl, inr}
use Rattle.formula.specs.Atoms.{Atom, width, atom}
use Rattle.formula.specs.Ltl.{Ltl}
use Rattle.tableau.specs.Graphs.{Onward, here, step}
use Rattle.tableau.proofs.Coding.{coded, one_code}
use Rattle.tableau.proofs.Fairness.{met_same}
use Rattle.seconds.specs.Claims.{FreeNumbers}
use Rattle.seconds.specs.Free.{PossibleEnd, FreeEdge, FreeKept}
use Rattle.seconds.specs.Numbers.{FreeNumberEdge, FreeNumberKept}
use Rattle.seconds.proofs.Freed.{free_edges}
use Rattle.seconds.proofs.Possibles.{tests}

module _ (E : ℕ) (f : Ltl) where
  code : Atom f → ℕ
  code a = (coded f a).0

  code_low : (a : Atom f) → code a < 2 ^ width f
  unfolding code
  code_low a = (coded f a).1

  code_is : (a : Atom f) → atom f 0 (code a) ≡ a
  unfolding code
  code_is a = (coded f a).2

  edge_to : (a b : Atom f) → FreeEdge E f a b → FreeNumberEdge E f (code a) (code b)
  edge_to a b e = (
    code_low a,
    code_low b,
    (free_edges E f (atom f 0 (code a)) (atom f 0 (code b))).1
        (subst (λ x. FreeEdge E f x (atom f 0 (code b))) (sym (code_is a)) (subst (λ y. FreeEdge E f a y) (sym (code_is b)) e)),
  )

  edge_from : (u v : ℕ) → FreeNumberEdge E f u v → FreeEdge E f (atom f 0 u) (atom f 0 v)
  edge_from u v e = (free_edges E f (atom f 0 u) (atom f 0 v)).0 e.2

  path_to : (y x : Atom f) → Onward (Atom f) (FreeEdge E f) y x → Onward ℕ (FreeNumberEdge E f) (code y) (code x)
  path_to y x here = here
  path_to y x (step x' e rest) = step (code x') (edge_to x x' e) (path_to y x' rest)

  path_from : (y x : ℕ) → Onward ℕ (FreeNumberEdge E f) y x → Onward (Atom f) (FreeEdge E f) (atom f 0 y) (atom f 0 x)
  path_from y x here = here
  path_from y x (step x' e rest) = step (atom f 0 x') (edge_from x x' e) (path_from y x' rest)

  kept_to : (z : Atom f) → FreeKept E f z → FreeNumberKept E f (code z)
  kept_to z (inl (y, path, end)) =
      inl (code y, path_to y z path, (code_low y, (tests.stop f (atom f 0 (code y))).1 (subst (PossibleEnd f) (sym (code_is y)) end)))
  kept_to z (inr (w, p, path, ring, met)) =
      inr (
        (λ i. code (w i)),
        p,
        path_to (w 0) z path,
        record { period = ring.period; again = λ i. ap code (ring.again i); arcs = λ i. edge_to (w i) (w (suc i)) (ring.arcs i) },
        met_same f w (λ i. atom f 0 (code (w i))) (λ i. code_is (w i)) met,
      )

  kept_from : (v : ℕ) → FreeNumberKept E f v → FreeKept E f (atom f 0 v)
  kept_from v (inl (y, path, end)) = inl (atom f 0 y, path_from y v path, (tests.stop f (atom f 0 y)).0 end.1)
  kept_from v (inr (w, p, path, ring, met)) =
      inr (
        (λ i. atom f 0 (w i)),
        p,
        path_from (w 0) v path,
        record { period = ring.period; again = λ i. ap (atom f 0) (ring.again i); arcs = λ i. edge_from (w i) (w (suc i)) (ring.arcs i) },
        met,
      )

  back : (v : ℕ) → v < 2 ^ width f → code (atom f 0 v) ≡ v
  back v h = one_code f (code (atom f 0 v)) v (code_low (atom f 0 v)) h (code_is (atom f 0 v))

pub free_numbers : FreeNumbers
free_numbers E f v h = (λ k. subst (FreeNumberKept E f) (back E f v h) (kept_to E f (atom f 0 v) k), kept_from E f v)
