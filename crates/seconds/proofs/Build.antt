-- A second system and a run of it, from a trace. Assumes nothing.
use Rattle.std.proofs.Common.{◌≡◌, ℕ, zero, suc, ◌+◌, ◌-◌, ◌^◌, ◌<◌, ◌≤◌, true, false, cond, ◌||◌, eqb, ltb, ◌⊎◌, List, [], ◌∷◌, map, length, get_or, sym, refl, ap, ◌∙◌, subst, inl, inr, ⊎_elim, arith}
use Rattle.std.specs.List.{range_with_len}
use Rattle.std.proofs.lemmas.List.FromFn.{length-map-range_with_len, get_or-map-range_with_len}
use Rattle.std.proofs.lemmas.Bool.{cases_Bool, cases_eq, cases_lt, cond_both, cond-false, cond-true, eq-eqb, eqb-true, le-ltb, lt-ltb, ne_eqb, or_from, or_left, or_right}
use Rattle.formula.specs.Atoms.{Atom, value}
use Rattle.formula.specs.Ltl.{Ltl}
use Rattle.meaning.specs.Runs.{Run, places, state_at, event_at, Closes, round, stuck, IsRun}
use Rattle.meaning.specs.Systems.{System, no_arc, HasArc, Deadlock, Initial}
use Rattle.meaning.specs.Truth.{bears}
use Rattle.meaning.specs.declared.Arc.{Arc}
use Rattle.tableau.specs.Along.{Fits, Follows, Ends}
use Rattle.tableau.specs.Lassos.{FairLoop, Lasso}
use Rattle.tableau.proofs.Arcs.{In, in_bears}
use Rattle.tableau.proofs.Lassoed.{lasso_violates}
use Rattle.seconds.specs.Free.{PossibleMove}
use Rattle.seconds.specs.Known.{Known, Second, FirstClosed, Spoiled, Sound}
use Rattle.seconds.proofs.Letters.{retarget, bears_retarget, to_retarget, fits_like}
use Rattle.seconds.proofs.Traces.{Doubt, Trace, joined}

absorbed : (t u : ℕ) (xs : List Arc) → bears t xs ≡ true → bears u xs ≡ (eqb t u || bears u xs)
absorbed t u xs h =
    ⊎_elim
    (λ e. subst (λ x. bears x xs ≡ true) (eqb-true t u e) h ∙ sym (or_left (eqb t u) (bears u xs) e))
    (λ e. sym (ap (λ y. y || bears u xs) e))
    (cases_Bool (eqb t u))

-- what a state is for
data Role : Type 0 where
  known : Role
  plays : ℕ → Role
  blank : Role

module _ (K : Known) (sound : Sound K) (f : Ltl) (c j m b : ℕ) (s t : ℕ → ℕ) (a : ℕ → Atom f) (trace : Trace K f c j m b s t a) (shut : K.opened c ≡ false) (root : Initial K.system (s 0)) where
  abbrev E : ℕ
  E = K.events

  low32 : (i : ℕ) → i ≤ j → s i < 2 ^ 32
  low32 zero h = sound.starts (s 0) root
  low32 (suc i) h = let o = trace.opens i (omega arith) in (sound.moves (s i) (t i) (s (suc i)) o.0 o.1).1

  c_low : c < 2 ^ 32
  c_low = subst (λ x. x < 2 ^ 32) trace.there (low32 j (omega arith))

  abbrev total : ℕ
  total = 2 ^ 32 + (m + 1)

  -- the state at place i
  abbrev st : ℕ → ℕ
  st i = cond (ltb j i) (2 ^ 32 + i) (s i)

  st_near : (i : ℕ) → i ≤ j → st i ≡ s i
  st_near i h = cond-false (ltb j i) (2 ^ 32 + i) (s i) (le-ltb j i h)

  st_far : (i : ℕ) → j < i → st i ≡ 2 ^ 32 + i
  st_far i h = cond-true (ltb j i) (2 ^ 32 + i) (s i) (lt-ltb j i h)

  st_low : (i : ℕ) → i ≤ m → st i < total
  st_low i h =
      ⊎_elim
      (λ far. let e = st_far i far in omega arith)
      (λ near. let e = st_near i near in let l = low32 i near in omega arith)
      (cases_lt j i)

  abbrev Safe : List Arc → Type 0
  Safe ys = (u x : ℕ) → In ys u x → (u < E) × (x < total)

  abbrev Good : ℕ → ℕ → List Arc → Type 0
  Good i w ys =
      Fits w ys f (a i) × (i < m → In ys (t i) (st (suc i))) × (i ≡ m → b ≤ m → In ys (t i) (st b)) × (i ≡ m → b ≡ m + 1 → ys ≡ [])

  -- what a state shows that plays place i
  abbrev Card : ℕ → Type 0
  Card i = (w : ℕ) × (ys : List Arc) × (w < 2 ^ 32) × Safe ys × (j ≤ i → i ≤ m → Good i w ys)

  abbrev Dealt : ℕ → ℕ → Type 0
  Dealt i x = (w : ℕ) × (ys : List Arc) × (w < 2 ^ 32) × Safe ys × Fits w ys f (a i) × In ys (t i) x

  deal : (i x : ℕ) → x < total → PossibleMove E f (t i) (a i) → Dealt i x
  deal i x h (w, xs, small, below, has, fit, takes) = (
    w,
    record { event = t i; target = x } ∷ retarget c xs,
    small,
    safe,
    fits_like f w xs (record { event = t i; target = x } ∷ retarget c xs) (a i) (λ u. absorbed (t i) u xs has ∙ ap (λ y. eqb (t i) u || y) (sym (bears_retarget u c xs))) fit,
    (0, omega arith, refl),
  )
    where
      at : (k u y : ℕ) → k < length (record { event = t i; target = x } ∷ retarget c xs) → get_or (record { event = t i; target = x } ∷ retarget c xs) k no_arc ≡ record { event = u; target = y } → (u < E) × (y < total)
      at zero u y l e =
          (subst (λ n. n < E) (ap (λ (p : Arc). p.event) e) (below (t i) has), subst (λ n. n < total) (ap (λ (p : Arc). p.target) e) h)
      at (suc k) u y l e =
          let l' : k < length (retarget c xs) = omega arith in
          let q = in_bears (retarget c xs) k u l' (ap (λ (p : Arc). p.event) e) in
          let z = sym (to_retarget c xs k l') ∙ ap (λ (p : Arc). p.target) e in
          let cl = c_low in
          (below u (sym (bears_retarget u c xs) ∙ q), subst (λ n. n < total) z (omega arith))

      safe : Safe (record { event = t i; target = x } ∷ retarget c xs)
      safe u y p = at p.0 u y p.1 p.2

  none_safe : Safe []
  none_safe u x p = absurd (omega (arith, p.1))

  no_card : (i : ℕ) → (j ≤ i → i ≤ m → ⊥) → Card i
  no_card i never = (0, [], omega arith, none_safe, λ lo hi. absurd (never lo hi))

  card : (i : ℕ) → Card i
  card i =
      ⊎_elim
      (λ h. no_card i (λ lo hi. omega arith))
      (λ lo.
      ⊎_elim
      (λ h. mid lo h)
      (λ h. ⊎_elim (λ e. last e) (λ ne. no_card i (λ _ hi. ne (omega arith))) (cases_eq i m))
      (cases_lt i m))
      (cases_lt i j)
    where
      mid : j ≤ i → i < m → Card i
      mid lo h =
          let d = deal i (st (suc i)) (st_low (suc i) (omega arith)) (trace.moves i lo h) in
          (d.0, d.1, d.2, d.3, λ _ _. (d.4, (λ _. d.5), (λ e. absurd (omega arith)), (λ e. absurd (omega arith))))

      last : i ≡ m → Card i
      last e =
          ⊎_elim
          (λ over.
          let z = trace.stops (omega (arith, trace.low)) in
          (z.0, [], z.1, none_safe, λ _ _. (subst (λ k. Fits z.0 [] f (a k)) (sym e) z.2, (λ h. absurd (omega arith)), (λ _ h. absurd (omega arith)), (λ _ _. refl))))
          (λ loop.
          let d = deal i (st b) (st_low b loop) (subst (λ k. PossibleMove E f (t k) (a k)) (sym e) (trace.loops loop).0) in
          (d.0, d.1, d.2, d.3, λ _ _. (d.4, (λ h. absurd (omega arith)), (λ _ _. d.5), (λ _ h. absurd (omega arith)))))
          (cases_lt m b)

  who : ℕ → Role
  who x = cond (K.opened x) known (cond (eqb x c) (plays j) (cond (ltb x (2 ^ 32)) blank (plays (x - 2 ^ 32))))

  facts_of : Role → ℕ → ℕ
  facts_of known x = K.system.facts x
  facts_of (plays i) x = (card i).0
  facts_of blank x = 0

  arcs_of : Role → ℕ → List Arc
  arcs_of known x = K.system.arcs x
  arcs_of (plays i) x = (card i).1
  arcs_of blank x = []

  abbrev made : System
  made = record { facts = λ x. facts_of (who x) x; arcs = λ x. arcs_of (who x) x; initial = K.system.initial }

  who_known : (x : ℕ) → K.opened x ≡ true → who x ≡ known
  unfolding who
  who_known x o = cond-true (K.opened x) known _ o

  who_c : who c ≡ plays j
  unfolding who
  who_c = cond-false (K.opened c) known _ shut ∙ cond-true (eqb c c) (plays j) _ (eq-eqb c c refl)

  who_far : (i : ℕ) → who (2 ^ 32 + i) ≡ plays i
  unfolding who
  who_far i =
      cond-false (K.opened x) known _ off
      ∙ (cond-false (eqb x c) (plays j) _ (ne_eqb x c (λ e. let l = c_low in omega arith))
      ∙ (cond-false (ltb x (2 ^ 32)) blank _ (le-ltb x (2 ^ 32) (omega arith)) ∙ ap plays (omega arith)))
    where
      x : ℕ
      x = 2 ^ 32 + i

      off : K.opened x ≡ false
      off = ⊎_elim (λ o. let l = sound.states x o in absurd (omega arith)) (λ e. e) (cases_Bool (K.opened x))

  who_open : (i : ℕ) → i < j → who (st i) ≡ known
  who_open i h = who_known (st i) (subst (λ x. K.opened x ≡ true) (sym (st_near i (omega arith))) (trace.opens i h).0)

  who_free : (i : ℕ) → j ≤ i → who (st i) ≡ plays i
  who_free i h =
      ⊎_elim
      (λ e. subst (λ k. who (st k) ≡ plays k) e (ap who (st_near j (omega arith) ∙ trace.there) ∙ who_c))
      (λ ne. ap who (st_far i (omega (arith, ne))) ∙ who_far i)
      (cases_eq j i)

  words : (x : ℕ) → made.facts x < 2 ^ 32
  unfolding who facts_of
  words x =
      cond_both (K.opened x) known _ (λ q. facts_of q x < 2 ^ 32) (λ o. sound.facts x o) λ _.
      cond_both (eqb x c) (plays j) _ (λ q. facts_of q x < 2 ^ 32) (λ _. (card j).2) λ _.
      cond_both (ltb x (2 ^ 32)) blank _ (λ q. facts_of q x < 2 ^ 32) (λ _. omega arith) (λ _. (card (x - 2 ^ 32)).2)

  safe_all : (x : ℕ) → Safe (made.arcs x)
  unfolding who arcs_of
  safe_all x =
      cond_both (K.opened x) known _ (λ q. Safe (arcs_of q x)) (λ o u y p. let z = sound.moves x u y o p in (z.0, omega (arith, z.1))) λ _.
      cond_both (eqb x c) (plays j) _ (λ q. Safe (arcs_of q x)) (λ _. (card j).3) λ _.
      cond_both (ltb x (2 ^ 32)) blank _ (λ q. Safe (arcs_of q x)) (λ _. none_safe) (λ _. (card (x - 2 ^ 32)).3)

  facts_known : (x : ℕ) → who x ≡ known → made.facts x ≡ K.system.facts x
  unfolding facts_of
  facts_known x e = ap (λ q. facts_of q x) e

  arcs_known : (x : ℕ) → who x ≡ known → made.arcs x ≡ K.system.arcs x
  unfolding arcs_of
  arcs_known x e = ap (λ q. arcs_of q x) e

  facts_free : (x i : ℕ) → who x ≡ plays i → made.facts x ≡ (card i).0
  unfolding facts_of
  facts_free x i e = ap (λ q. facts_of q x) e

  arcs_free : (x i : ℕ) → who x ≡ plays i → made.arcs x ≡ (card i).1
  unfolding arcs_of
  arcs_free x i e = ap (λ q. arcs_of q x) e

  second : Second K made
  second = record {
    count = total;
    starts = refl;
    initial = λ x h. let l = sound.starts x h in omega arith;
    facts = λ x _. words x;
    moves = λ x u y _ p. safe_all x u y p;
    open_states = λ x o. let l = sound.states x o in omega arith;
    open_facts = λ x o. facts_known x (who_known x o);
    open_arcs = λ x o. arcs_known x (who_known x o);
  }

  good : (i : ℕ) → j ≤ i → i ≤ m → Good i (made.facts (st i)) (made.arcs (st i))
  good i lo hi =
      let e = who_free i lo in
      subst (λ w. Good i w (made.arcs (st i))) (sym (facts_free (st i) i e))
      (subst (λ ys. Good i (card i).0 ys) (sym (arcs_free (st i) i e)) ((card i).4 lo hi))

  fits_at : (i : ℕ) → i ≤ m → Fits (made.facts (st i)) (made.arcs (st i)) f (a i)
  fits_at i hi =
      ⊎_elim
      (λ h.
      let e = who_open i h in
      let n = st_near i (omega arith) in
      subst (λ w. Fits w (made.arcs (st i)) f (a i)) (sym (facts_known (st i) e ∙ ap K.system.facts n))
      (subst (λ ys. Fits (K.system.facts (s i)) ys f (a i)) (sym (arcs_known (st i) e ∙ ap K.system.arcs n)) (trace.opens i h).2))
      (λ lo. (good i lo hi).0)
      (cases_lt i j)

  step_at : (i : ℕ) → i < m → In (made.arcs (st i)) (t i) (st (suc i))
  step_at i hi =
      ⊎_elim
      (λ h.
      let e = who_open i h in
      let n = st_near i (omega arith) in
      subst (λ y. In (made.arcs (st i)) (t i) y) (sym (st_near (suc i) (omega arith)))
      (subst (λ ys. In ys (t i) (s (suc i))) (sym (arcs_known (st i) e ∙ ap K.system.arcs n)) (trace.opens i h).1))
      (λ lo. (good i lo (omega arith)).1 hi)
      (cases_lt i j)

  abbrev ev : ℕ → ℕ
  ev i = cond (ltb i m || ltb b (m + 1)) (t i) 64

  ev_mid : (i : ℕ) → i < m → ev i ≡ t i
  ev_mid i h = cond-true (ltb i m || ltb b (m + 1)) (t i) 64 (or_left (ltb i m) (ltb b (m + 1)) (lt-ltb i m h))

  ev_loop : (i : ℕ) → b ≤ m → ev i ≡ t i
  ev_loop i h = cond-true (ltb i m || ltb b (m + 1)) (t i) 64 (or_right (ltb i m) (ltb b (m + 1)) (lt-ltb b (m + 1) (omega arith)))

  ev_stop : ev m ≡ 64 ⊎ (b ≤ m)
  ev_stop =
      ⊎_elim
      (λ h. inr (omega arith))
      (λ h. inl (cond-false (ltb m m || ltb b (m + 1)) (t m) 64 (or_from (ltb m m) (ltb b (m + 1)) (le-ltb m m (omega arith)) (le-ltb b (m + 1) h))))
      (cases_lt b (m + 1))

  abbrev r : Run
  r = record { states = map st (range_with_len 0 (m + 1)); events = map ev (range_with_len 0 (m + 1)); back = b }

  places_r : places r ≡ m + 1
  places_r = length-map-range_with_len st 0 (m + 1)

  state_r : (i : ℕ) → i ≤ m → state_at r i ≡ st i
  state_r i h = get_or-map-range_with_len st 0 (m + 1) i i 0 (omega arith) (omega arith)

  event_r : (i : ℕ) → i ≤ m → event_at r i ≡ ev i
  event_r i h = get_or-map-range_with_len ev 0 (m + 1) i i 0 (omega arith) (omega arith)

  arc_at : (i k : ℕ) → i ≤ m → k ≤ m → ev i ≡ t i → In (made.arcs (st i)) (t i) (st k) → HasArc made (state_at r i) (event_at r i) (state_at r k)
  arc_at i k hi hk e p =
      subst (λ x. HasArc made x (event_at r i) (state_at r k)) (sym (state_r i hi))
      (subst (λ u. HasArc made (st i) u (state_at r k)) (sym (event_r i hi ∙ e))
      (subst (λ y. HasArc made (st i) (t i) y) (sym (state_r k hk)) p))

  last_r : places r - 1 ≡ m
  last_r = omega (arith, places_r)

  closes_r : Closes made r
  closes_r =
      let low = trace.low in
      let up = trace.upto in
      ⊎_elim
      (λ over.
      stuck (omega (arith, places_r))
      (subst (λ k. Deadlock made (state_at r k)) (sym last_r)
      (subst (λ x. Deadlock made x) (sym (state_r m (omega arith))) (ap (λ (ys : List Arc). length ys) ((good m up (omega arith)).3 refl (omega arith)))))
      (ap (event_at r) last_r ∙ (event_r m (omega arith) ∙ ⊎_elim (λ x. x) (λ x. absurd (omega arith)) ev_stop)))
      (λ loop.
      round (omega (arith, places_r))
      (subst (λ k. HasArc made (state_at r k) (event_at r k) (state_at r b)) (sym last_r)
      (arc_at m b (omega arith) loop (ev_loop m loop) ((good m up (omega arith)).2 refl loop))))
      (cases_lt m b)

  is_run : IsRun made r
  is_run = let z = places_r in record {
    some = omega arith;
    parallel = length-map-range_with_len ev 0 (m + 1) ∙ sym places_r;
    starts = subst (λ x. Initial K.system x) (sym (state_r 0 (omega arith) ∙ st_near 0 (omega arith))) root;
    steps = λ i h.
        let e : suc i ≡ i + 1 = omega arith in
        subst (λ k. HasArc made (state_at r i) (event_at r i) (state_at r k)) e (arc_at i (suc i) (omega arith) (omega arith) (ev_mid i (omega arith)) (step_at i (omega arith)));
    closes = closes_r;
  }

  first_closed : FirstClosed K r c
  first_closed = let up = trace.upto in let z = places_r in (
    j,
    omega arith,
    state_r j up ∙ (st_near j (omega arith) ∙ trace.there),
    shut,
    λ i h. subst (λ x. K.opened x ≡ true) (sym (state_r i (omega arith) ∙ st_near i (omega arith))) (trace.opens i h).0,
  )

  lasso_r : Lasso made r f a
  lasso_r = let z = places_r in record {
    fits = λ p h. subst (λ x. Fits (made.facts x) (made.arcs x) f (a p)) (sym (state_r p (omega arith))) (fits_at p (omega arith));
    steps = λ p h.
        let e : suc p ≡ p + 1 = omega arith in
        subst (λ k. Follows f (event_at r p) (a p) (a k)) e
        (subst (λ u. Follows f u (a p) (a (suc p))) (sym (event_r p (omega arith) ∙ ev_mid p (omega arith))) (trace.follows p (omega arith)));
    turns = λ h.
        let loop : b ≤ m = omega arith in
        subst (λ k. Follows f (event_at r k) (a k) (a b)) (sym last_r)
        (subst (λ u. Follows f u (a m) (a b)) (sym (event_r m (omega arith) ∙ ev_loop m loop)) (trace.loops loop).1);
    fair = λ h. subst (λ k. FairLoop f b k a) (sym last_r) (trace.loops (omega arith)).2;
    stops = λ h. subst (λ k. Ends f (a k)) (sym last_r) (trace.stops (omega arith)).3;
  }

  pub spoiled : value f (a 0) ≡ false → Spoiled K f c
  spoiled bad = (
    made,
    second,
    (
      r,
      is_run,
      first_closed,
      lasso_violates made r (omega (arith, places_r)) (omega (arith, places_r, trace.low)) f a lasso_r bad,
    ),
  )

pub construction : (K : Known) → Sound K → (f : Ltl) (c : ℕ) → Doubt K f c → Spoiled K f c
construction K sound f c (s, a, z, member, bad, leads, shut, on) =
    let (j, m, b, ss, ts, xs, es, ea, trace) = joined K f c z on s a leads in
    spoiled K sound f c j m b ss ts xs trace shut (subst (λ x. Initial K.system x) (sym es) member)
    (subst (λ x. value f x ≡ false) (sym ea) bad)
