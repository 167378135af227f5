-- The open part as a graph: a run gives a lasso of nodes, and a lasso of nodes a run. Assumes nothing.
use Rattle.std.proofs.Common.{◌≡◌, ℕ, suc, ◌+◌, ◌-◌, ◌<◌, ◌≤◌, Bool, true, map, sym, refl, ap, ◌∙◌, subst, inl, inr, ⊎_elim, arith}
use Rattle.std.specs.List.{range_with_len}
use Rattle.std.proofs.lemmas.List.FromFn.{length-map-range_with_len, get_or-map-range_with_len}
use Rattle.std.proofs.lemmas.Bool.{cases_lt}
use Rattle.formula.specs.Atoms.{Atom}
use Rattle.formula.specs.Ltl.{Ltl}
use Rattle.meaning.specs.Runs.{Run, places, state_at, event_at, Closes, round, stuck, IsRun, Violates}
use Rattle.meaning.specs.Systems.{System, HasArc, Deadlock, Initial}
use Rattle.tableau.specs.Along.{Fits, Follows, Ends}
use Rattle.tableau.specs.Claims.{OpenPart, ReadOff}
use Rattle.tableau.specs.Graphs.{Met}
use Rattle.tableau.specs.Lassos.{truths, FairLoop, Lasso}
use Rattle.tableau.specs.Opens.{OverOpen, OpenViolated, OpenNode, OpenEdge, OpenStuck, OpenKept, OpenStart, OpenDoubt, NodeLasso, ReadsOff}
use Rattle.tableau.proofs.Fairness.{met_loop, loop_met}
use Rattle.tableau.proofs.Lassoed.{lasso_violates, low_run, violated_lasso}
use Rattle.tableau.proofs.Rounds.{spot, spot_all, onward, rounds, Line, lined, Loop, looped}

-- from a lasso of nodes to a run
module _ (M : System) (opened : ℕ → Bool) (f : Ltl) (m b : ℕ) (x : ℕ → ℕ × Atom f) (l : NodeLasso M opened f m b x) where
  node : (i : ℕ) → i ≤ m → OpenNode M opened f (x i)
  node i h =
      ⊎_elim
      (λ lo. (l.edges i lo).0)
      (λ hi.
      let q : m ≡ i = omega arith in
      subst (λ k. OpenNode M opened f (x k)) q
      (⊎_elim (λ over. (l.stops (omega (arith, l.low))).0) (λ low. (l.turns low).0.0) (cases_lt m b)))
      (cases_lt i m)

  abbrev Goes : ℕ → ℕ → ℕ → Type 0
  Goes i t k = HasArc M (x i).0 t (x k).0 × Follows f t (x i).1 (x k).1

  -- the event at a place
  picked : (i : ℕ) → (t : ℕ) × (i < m → Goes i t (suc i)) × (i ≡ m → b ≤ m → Goes m t b) × (i ≡ m → m < b → t ≡ 64)
  picked i =
      ⊎_elim
      (λ lo. let e = (l.edges i lo).2 in (e.0, (λ _. (e.1, e.2)), (λ q _. absurd (omega arith)), (λ q _. absurd (omega arith))))
      (λ hi.
      ⊎_elim
      (λ over. (64, (λ lo. absurd (omega arith)), (λ _ low. absurd (omega arith)), (λ _ _. refl)))
      (λ low. let e = (l.turns low).0.2 in (e.0, (λ lo. absurd (omega arith)), (λ _ _. (e.1, e.2)), (λ _ over. absurd (omega arith))))
      (cases_lt m b))
      (cases_lt i m)

  t : ℕ → ℕ
  t i = (picked i).0

  t_mid : (i : ℕ) → i < m → Goes i (t i) (suc i)
  unfolding t
  t_mid i h = (picked i).1 h

  t_turn : b ≤ m → Goes m (t m) b
  unfolding t
  t_turn h = (picked m).2 refl h

  t_stop : m < b → t m ≡ 64
  unfolding t
  t_stop h = (picked m).3 refl h

  abbrev r : Run
  r = record { states = map (λ i. (x i).0) (range_with_len 0 (m + 1)); events = map t (range_with_len 0 (m + 1)); back = b }

  places_r : places r ≡ m + 1
  places_r = length-map-range_with_len (λ i. (x i).0) 0 (m + 1)

  last_r : places r - 1 ≡ m
  last_r = omega (arith, places_r)

  state_r : (i : ℕ) → i ≤ m → state_at r i ≡ (x i).0
  state_r i h = get_or-map-range_with_len (λ i. (x i).0) 0 (m + 1) i i 0 (omega arith) (omega arith)

  event_r : (i : ℕ) → i ≤ m → event_at r i ≡ t i
  event_r i h = get_or-map-range_with_len t 0 (m + 1) i i 0 (omega arith) (omega arith)

  arc_at : (i k : ℕ) → i ≤ m → k ≤ m → HasArc M (x i).0 (t i) (x k).0 → HasArc M (state_at r i) (event_at r i) (state_at r k)
  arc_at i k hi hk arc =
      subst (λ y. HasArc M y (event_at r i) (state_at r k)) (sym (state_r i hi))
      (subst (λ u. HasArc M (x i).0 u (state_at r k)) (sym (event_r i hi))
      (subst (λ y. HasArc M (x i).0 (t i) y) (sym (state_r k hk)) arc))

  closes_r : Closes M r
  closes_r =
      ⊎_elim
      (λ over.
      stuck (omega (arith, places_r, l.low))
      (subst (λ k. Deadlock M (state_at r k)) (sym last_r) (subst (λ s. Deadlock M s) (sym (state_r m (omega arith))) (l.stops (omega (arith, l.low))).1))
      (ap (event_at r) last_r ∙ (event_r m (omega arith) ∙ t_stop over)))
      (λ low.
      round (omega (arith, places_r))
      (subst (λ k. HasArc M (state_at r k) (event_at r k) (state_at r b)) (sym last_r) (arc_at m b (omega arith) low (t_turn low).0)))
      (cases_lt m b)

  run_r : Initial M (x 0).0 → IsRun M r
  run_r root = let z = places_r in record {
    some = omega arith;
    parallel = length-map-range_with_len t 0 (m + 1) ∙ sym places_r;
    starts = subst (λ s. Initial M s) (sym (state_r 0 (omega arith))) root;
    steps = λ i h.
        let e : suc i ≡ i + 1 = omega arith in
        subst (λ k. HasArc M (state_at r i) (event_at r i) (state_at r k)) e (arc_at i (suc i) (omega arith) (omega arith) (t_mid i (omega arith)).0);
    closes = closes_r;
  }

  follows_at : (i k : ℕ) → i ≤ m → Follows f (t i) (x i).1 (x k).1 → Follows f (event_at r i) (x i).1 (x k).1
  follows_at i k hi h = subst (λ u. Follows f u (x i).1 (x k).1) (sym (event_r i hi)) h

  lasso_r : Lasso M r f (λ i. (x i).1)
  lasso_r = let z = places_r in record {
    fits = λ p h. subst (λ s. Fits (M.facts s) (M.arcs s) f (x p).1) (sym (state_r p (omega arith))) (node p (omega arith)).1;
    steps = λ p h.
        let e : suc p ≡ p + 1 = omega arith in
        subst (λ k. Follows f (event_at r p) (x p).1 (x k).1) e (follows_at p (suc p) (omega arith) (t_mid p (omega arith)).1);
    turns = λ h. subst (λ k. Follows f (event_at r k) (x k).1 (x b).1) (sym last_r) (follows_at m b (omega arith) (t_turn (omega arith)).1);
    fair = λ h. subst (λ k. FairLoop f b k (λ i. (x i).1)) (sym last_r) (l.turns (omega arith)).1;
    stops = λ h. subst (λ k. Ends f (x k).1) (sym last_r) (l.stops (omega arith)).2;
  }

  pub read_off : OpenStart M opened f (x 0) → (r : Run) × ReadsOff f m b x r × IsRun M r × OverOpen opened r × Violates M r f
  read_off start =
      let z = places_r in (
        r,
        record { size = places_r; back = refl; states = state_r },
        run_r start.1,
        (λ i h. subst (λ s. opened s ≡ true) (sym (state_r i (omega arith))) (node i (omega arith)).0),
        lasso_violates M r (omega arith) (omega (arith, l.low)) f (λ i. (x i).1) lasso_r start.2,
      )

pub reads_off : ReadOff
reads_off M opened f m b x start l = read_off M opened f m b x l start

module _ (M : System) (opened : ℕ → Bool) (f : Ltl) where
  abbrev Node : Type 0
  Node = ℕ × Atom f

  abbrev Edge : Node → Node → Type 0
  Edge = OpenEdge M opened f

  -- from a run to the graph
  module _ (r : Run) (run : IsRun M r) (opens : OverOpen opened r) (v : ℕ → Atom f) (l : Lasso M r f v) (m : ℕ) (em : m + 1 ≡ places r) where
    abbrev at : ℕ → Node
    at i = (state_at r i, v i)

    last_is : places r - 1 ≡ m
    last_is = omega arith

    node_at : (i : ℕ) → i ≤ m → OpenNode M opened f (at i)
    node_at i h = (opens i (omega arith), l.fits i (omega arith))

    mid : (i : ℕ) → i < m → Edge (at i) (at (suc i))
    mid i h =
        let e : i + 1 ≡ suc i = omega arith in (
          node_at i (omega arith),
          node_at (suc i) h,
          (
            event_at r i,
            subst (λ k. HasArc M (state_at r i) (event_at r i) (state_at r k)) e (run.steps i (omega arith)),
            subst (λ k. Follows f (event_at r i) (v i) (v k)) e (l.steps i (omega arith)),
          ),
        )

    kept_round : r.back < places r → HasArc M (state_at r (places r - 1)) (event_at r (places r - 1)) (state_at r r.back) → OpenKept M opened f (at 0)
    kept_round loop arc =
        let low : r.back ≤ m = omega arith in
        let last : Edge (at m) (at r.back) = (
          node_at m (omega arith),
          node_at r.back low,
          (
            event_at r m,
            subst (λ k. HasArc M (state_at r k) (event_at r k) (state_at r r.back)) last_is arc,
            subst (λ k. Follows f (event_at r k) (v k) (v r.back)) last_is (l.turns loop),
          ),
        ) in
        inr (
          (λ i. at (spot m r.back i)),
          suc (m - r.back),
          onward Node Edge m at mid r.back low r.back 0 (omega arith),
          rounds Node Edge m r.back at low mid last,
          loop_met f r.back m v (λ i. v (spot m r.back i)) (λ k lo hi. let q = spot_all m r.back low k lo hi in (q.0, ap v q.1))
              (subst (λ k. FairLoop f r.back k v) last_is (l.fair loop)),
        )

    kept_stuck : r.back ≡ places r → Deadlock M (state_at r (places r - 1)) → OpenKept M opened f (at 0)
    kept_stuck line dead =
        inl (
          at m,
          onward Node Edge m at mid m (omega arith) m 0 (omega arith),
          (
            node_at m (omega arith),
            subst (λ k. Deadlock M (state_at r k)) last_is dead,
            subst (λ k. Ends f (v k)) last_is (l.stops line),
          ),
        )

    kept : Closes M r → OpenKept M opened f (at 0)
    kept (round loop arc) = kept_round loop arc
    kept (stuck line dead _) = kept_stuck line dead

  -- from the graph to a lasso of nodes
  of : (x y : Node) → Edge x y → (t : ℕ) × Edge x y
  of x y e = (0, e)

  bad_from : (x : Node) → OpenStart M opened f x → (m b : ℕ) (a : ℕ → Node) → a 0 ≡ x → NodeLasso M opened f m b a → OpenViolated M opened f
  bad_from x start m b a e l =
      let q = read_off M opened f m b a l (subst (OpenStart M opened f) (sym e) start) in
      (q.0, q.2, q.3, q.4)

  from_end : (x : Node) → OpenStart M opened f x → (y : Node) → OpenStuck M opened f y → Line Node Edge (λ _. Edge) of y x → OpenViolated M opened f
  from_end x start y end (m, a, t, ex, ey, mid) =
      bad_from x start m (m + 1) a ex
      (record { edges = mid; low = omega arith; turns = λ h. absurd (omega arith); stops = λ _. subst (OpenStuck M opened f) (sym ey) end })

  from_round : (x : Node) → OpenStart M opened f x → (w : ℕ → Node) → Met f (λ i. (w i).1) → Loop Node Edge (λ _. Edge) of w x → OpenViolated M opened f
  from_round x start w met (m, b, a, t, ex, low, mid, last, cover) =
      bad_from x start m b a ex
      (record {
        edges = mid;
        low = omega arith;
        turns = λ _. (last, met_loop f b m (λ i. (w i).1) (λ i. (a i).1) (λ i. let q = cover i in (q.0, q.1, q.2, ap (λ (z : Node). z.1) q.3)) met);
        stops = λ h. absurd (omega arith);
      })

  from_kept : (x : Node) → OpenStart M opened f x → OpenKept M opened f x → OpenViolated M opened f
  from_kept x start (inl (y, path, end)) = from_end x start y end (lined Node Edge (λ _. Edge) of y x path)
  from_kept x start (inr (w, p, path, ring, met)) = from_round x start w met (looped Node Edge (λ _. Edge) of w p ring x path)

  to_kept : OpenViolated M opened f → OpenDoubt M opened f
  to_kept (r, run, opens, bad) =
      let some = run.some in
      let l = violated_lasso M r some (low_run M r run) f bad in
      let v : ℕ → Atom f = truths M r f in (
        (state_at r 0, v 0),
        (node_at r run opens v l.0 (places r - 1) (omega arith) 0 (omega arith), run.starts, l.1),
        kept r run opens v l.0 (places r - 1) (omega arith) run.closes,
      )

pub open_part : OpenPart
open_part M opened f = (to_kept M opened f, λ d. from_kept M opened f d.0 d.1 d.2)
