-- A trace from a run of a second system. Assumes nothing.
use Rattle.std.proofs.Common.{◌≡◌, ℕ, zero, suc, ◌+◌, ◌-◌, ◌<◌, ◌≤◌, true, length, get_or, sym, refl, ap, ◌∙◌, subst, ⊎_elim, arith}
use Rattle.std.proofs.lemmas.Bool.{cases_eq, cases_lt}
use Rattle.formula.specs.Atoms.{Atom}
use Rattle.formula.specs.Ltl.{Ltl}
use Rattle.meaning.specs.Paths.{Within}
use Rattle.meaning.specs.Runs.{Run, places, state_at, event_at, IsRun, after, place, unroll}
use Rattle.meaning.specs.Systems.{System, HasArc, Deadlock}
use Rattle.meaning.specs.declared.Arc.{Arc}
use Rattle.meaning.proofs.Places.{within_loop, from_line, to_line, line_place, down, inside, goes_on}
use Rattle.tableau.specs.Along.{Fits, Follows, Along}
use Rattle.tableau.specs.Lassos.{truths}
use Rattle.tableau.proofs.Again.{advance, turned}
use Rattle.tableau.proofs.Arcs.{In, in_bears, bears_in, no_arcs}
use Rattle.tableau.proofs.Exists.{existence}
use Rattle.tableau.proofs.Fairness.{fair_found}
use Rattle.tableau.proofs.Lassoed.{low_run, run_stops, run_arc, violated_lasso}
use Rattle.seconds.specs.Free.{PossibleMove}
use Rattle.seconds.specs.Known.{Known, Second, Spoiled}
use Rattle.seconds.proofs.Letters.{follows_takes}
use Rattle.seconds.proofs.Traces.{Doubt, Trace, leads_all, continues}

module _ (K : Known) (N : System) (second : Second K N) (f : Ltl) (c : ℕ) (r : Run) (run : IsRun N r) (j : ℕ) (hj : j < places r) (there : state_at r j ≡ c) (opens : (i : ℕ) → i < j → K.opened (state_at r i) ≡ true) (v : ℕ → Atom f) (along : Along N (unroll r) f (λ i. v (place r i))) where
  live : (p : ℕ) → p < places r → state_at r p < second.count
  live zero h = second.initial (state_at r 0) run.starts
  live (suc p) h =
      let e : p + 1 ≡ suc p = omega arith in
      subst (λ k. state_at r k < second.count) e (second.moves (state_at r p) (event_at r p) (state_at r (p + 1)) (live p (omega arith)) (run.steps p (omega arith))).1

  abbrev S : ℕ → ℕ
  S i = state_at r (place r i)

  abbrev T : ℕ → ℕ
  T i = event_at r (place r i)

  abbrev A : ℕ → Atom f
  A i = v (place r i)

  -- one round more where the loop begins before j
  abbrev m : ℕ
  m = places r - 1 + (j - r.back)

  abbrev b : ℕ
  b = r.back + (j - r.back)

  within : (i : ℕ) → i ≤ m → Within (unroll r).len i
  within i h = ⊎_elim (λ loop. within_loop r i loop) (λ line. to_line r i line (omega arith)) (cases_lt r.back (places r))

  live_at : (i : ℕ) → Within (unroll r).len i → S i < second.count
  live_at i w = live (place r i) (inside r run.some i w)

  arc_at : (i : ℕ) → Within (unroll r).len (suc i) → HasArc N (S i) (T i) (S (suc i))
  arc_at i w = let u = down r i w in run_arc N r run (place r i) (inside r run.some i u) ((goes_on r i u).1 w)

  possible : (i : ℕ) → Within (unroll r).len (suc i) → PossibleMove K.events f (T i) (A i)
  possible i w =
      let u = down r i w in
      let l = live_at i u in
      let arc = arc_at i w in (
        N.facts (S i),
        N.arcs (S i),
        second.facts (S i) l,
        (λ e h. let q = bears_in e (N.arcs (S i)) h in (second.moves (S i) e q.0 l q.1).0),
        in_bears (N.arcs (S i)) arc.0 (T i) arc.1 (ap (λ (p : Arc). p.event) arc.2),
        along.fits i u,
        follows_takes f (T i) (A i) (A (suc i)) (along.follows i w),
      )

  same_place : r.back < places r → place r (suc m) ≡ place r b
  same_place loop =
      let p = line_place r (places r - 1) (omega arith) in
      let q = turned r (places r - 1) (omega arith) in
      let z = advance r (j - r.back) (suc (places r - 1)) (suc m) (omega arith) (omega arith) in
      let y = line_place r b (omega arith) in
      omega arith

  wrap : r.back < places r → (i : ℕ) → b ≤ i → (k : ℕ) × (b ≤ k) × (k ≤ m) × (place r k ≡ place r i)
  wrap loop zero lo = (0, lo, omega arith, refl)
  wrap loop (suc i) lo =
      ⊎_elim
      (λ e. (b, omega arith, omega arith, ap (place r) e))
      (λ ne.
      let w = wrap loop i (omega (arith, ne)) in
      ⊎_elim
      (λ h. (suc w.0, omega (arith, w.1), h, ap (after r) w.3))
      (λ h.
      let e : w.0 ≡ m = omega (arith, w.2) in
      (b, omega arith, omega arith, sym (same_place loop) ∙ ap (after r) (ap (place r) (sym e) ∙ w.3)))
      (cases_lt w.0 m))
      (cases_eq b (suc i))

  near : (i : ℕ) → i < j → K.opened (S i) ≡ true
  near i h = subst (λ k. K.opened (state_at r k) ≡ true) (sym (line_place r i (omega arith))) (opens i h)

  pub drawn : Trace K f c j m b S T A
  drawn = let some = run.some in let low = low_run N r run in record {
    upto = omega arith;
    behind = omega arith;
    low = omega arith;
    there = ap (state_at r) (line_place r j hj) ∙ there;
    opens = λ i h.
        let o = near i h in (
          o,
          subst (λ ys. In ys (T i) (S (suc i))) (second.open_arcs (S i) o) (arc_at i (within (suc i) (omega arith))),
          subst (λ w. Fits w (K.system.arcs (S i)) f (A i)) (second.open_facts (S i) o)
              (subst (λ ys. Fits (N.facts (S i)) ys f (A i)) (second.open_arcs (S i) o) (along.fits i (within i (omega arith)))),
        );
    follows = λ i h. along.follows i (within (suc i) (omega arith));
    moves = λ i lo h. possible i (within (suc i) (omega arith));
    loops = λ h.
        let loop : r.back < places r = omega arith in
        let w = within_loop r (suc m) loop in (
          possible m w,
          subst (λ k. Follows f (T m) (A m) (v k)) (same_place loop) (along.follows m w),
          fair_found f b b m A A (λ i lo. let q = wrap loop i lo in (q.0, q.1, q.2, ap v q.3)) (along.fair (λ i. within_loop r i loop)),
        );
    stops = λ h.
        let line : r.back ≡ places r = omega arith in
        let w = within m (omega arith) in
        let e : place r m ≡ m = line_place r m (omega arith) in (
          N.facts (S m),
          second.facts (S m) (live_at m w),
          subst (λ ys. Fits (N.facts (S m)) ys f (A m)) (ap N.arcs (ap (state_at r) e) ∙ no_arcs (N.arcs (state_at r m)) (let e : places r - 1 ≡ m = omega arith in subst (λ k. Deadlock N (state_at r k)) e (run_stops N r run line).0)) (along.fits m w),
          along.stops m w (λ u. let x = from_line r (suc m) (omega arith) u in omega arith),
        );
  }

pub extraction : (K : Known) (f : Ltl) (c : ℕ) → Spoiled K f c → Doubt K f c
extraction K f c (N, second, (r, run, (j, hj, there, shut, opens), bad)) =
    let some = run.some in
    let low = low_run N r run in
    let v : ℕ → Atom f = truths N r f in
    let tr = drawn K N second f c r run j hj there opens v (existence N r f some) in
    let m : ℕ = places r - 1 + (j - r.back) in
    let b : ℕ = r.back + (j - r.back) in
    let S : ℕ → ℕ = λ i. state_at r (place r i) in
    let T : ℕ → ℕ = λ i. event_at r (place r i) in
    let A : ℕ → Atom f = λ i. v (place r i) in (
      state_at r 0,
      v 0,
      v (place r j),
      subst (λ ss. (i : ℕ) × (i < length ss) × (get_or ss i 0 ≡ state_at r 0)) second.starts run.starts,
      (violated_lasso N r some low f bad).1,
      leads_all K f c j m b S T A tr,
      shut,
      continues K f c j m b S T A tr,
    )
