-- The sample verdicts: those that hold by the definitions, the others by the theorem of second systems. Assumes nothing.
use Rattle.std.proofs.Common.{◌≡◌, ℕ, zero, suc, ◌+◌, ◌-◌, ◌/◌, ◌%◌, ◌^◌, ◌<◌, Bool, true, false, eqb, ltb, List, length, get_or, sym, refl, ap, ◌∙◌, subst, inl, inr, ⊎_elim, arith}
use Rattle.std.proofs.lemmas.Bool.{both_ways, cases_Bool, cases_eq, cases_lt, eqb-true, false≢true}
use Rattle.formula.specs.Atoms.{Atom, value}
use Rattle.formula.specs.Ltl.{Ltl, top, fact, neg, or, next}
use Rattle.meaning.specs.Claims.{A, Q}
use Rattle.meaning.specs.Paths.{Within}
use Rattle.meaning.specs.Runs.{places, state_at, event_at, Closes, round, stuck, after, unroll}
use Rattle.meaning.specs.Systems.{no_arc, Deadlock, Initial}
use Rattle.meaning.specs.Truth.{bears, goes}
use Rattle.meaning.specs.declared.Arc.{Arc}
use Rattle.meaning.proofs.Examples.{start, twelve}
use Rattle.meaning.proofs.Places.{goes_loop, goes_mid, goes_on}
use Rattle.tableau.specs.Graphs.{here, step}
use Rattle.tableau.specs.Opens.{OpenNode}
use Rattle.tableau.proofs.Arcs.{in_bears, bears_decides}
use Rattle.tableau.proofs.Lassoed.{run_arc}
use Rattle.seconds.specs.Free.{FreeKept}
use Rattle.seconds.specs.Known.{Known, Broken, Sound, Bounded}
use Rattle.seconds.specs.Samples.{a_closed, a_first, b_closed, goes_by_0, and, Nine}
use Rattle.seconds.specs.Verdicts.{holds, incomplete, Right}
use Rattle.seconds.proofs.Closed.{second_part}
use Rattle.seconds.proofs.Freed.{free_edges}
use Rattle.seconds.proofs.Judged.{first_is_second}
use Rattle.seconds.proofs.Possibles.{tests}

-- the limits of the two plants
a_starts : (s : ℕ) → Initial A s → s < 2 ^ 32
a_starts s (zero, h, e) = omega arith
a_starts s (suc i, h, e) = absurd (omega arith)

a_facts : (s : ℕ) → A.facts s < 2 ^ 32
a_facts zero = omega arith
a_facts (suc zero) = omega arith
a_facts (suc (suc zero)) = omega arith
a_facts (suc (suc (suc s))) = omega arith

a_arc : (s j t s' : ℕ) → j < length (A.arcs s) → get_or (A.arcs s) j no_arc ≡ record { event = t; target = s' } → (t < 3) × (s' < 2 ^ 32)
a_arc zero zero t s' h e = (omega (arith, ap (λ (x : Arc). x.event) e), omega (arith, ap (λ (x : Arc). x.target) e))
a_arc zero (suc j) t s' h e = absurd (omega arith)
a_arc (suc zero) zero t s' h e = (omega (arith, ap (λ (x : Arc). x.event) e), omega (arith, ap (λ (x : Arc). x.target) e))
a_arc (suc zero) (suc zero) t s' h e = (omega (arith, ap (λ (x : Arc). x.event) e), omega (arith, ap (λ (x : Arc). x.target) e))
a_arc (suc zero) (suc (suc j)) t s' h e = absurd (omega arith)
a_arc (suc (suc zero)) j t s' h e = absurd (omega arith)
a_arc (suc (suc (suc s))) j t s' h e = absurd (omega arith)

a_bounded : (opened : ℕ → Bool) → ((s : ℕ) → opened s ≡ true → s < 2 ^ 32) → Bounded (record { system = A; events = 3; opened = opened })
a_bounded opened low = record {
  starts = a_starts;
  states = low;
  facts = λ s _. a_facts s;
  moves = λ s t s' _ arc. a_arc s arc.0 t s' arc.1 arc.2;
}

none_open : (s : ℕ) → false ≡ true → s < 2 ^ 32
none_open s o = absurd (false≢true o)

b_bounded : Bounded b_closed
b_bounded = record {
  starts = a_starts;
  states = none_open;
  facts = λ s _. omega arith;
  moves = λ s t s' _ arc. absurd (omega (arith, arc.1));
}

-- with nothing open no run is over open states alone
not_broken : (K : Known) (f : Ltl) → ((s : ℕ) → K.opened s ≡ false) → Broken K f → ⊥
not_broken K f shut (r, run, opens, bad) = both_ways (K.opened (state_at r 0)) (shut (state_at r 0)) (opens 0 run.some)

a_sound : Sound a_closed
a_sound = (first_is_second a_closed (a_bounded (λ _. false) none_open)).1

-- incomplete at an initial state, by a kept atom
at_start : (K : Known) → Sound K → (f : Ltl) → ((s : ℕ) → K.opened s ≡ false) → Initial K.system 0 → (z : Atom f) → FreeKept K.events f z → value f z ≡ false → Right K f (incomplete 0)
at_start K sound f shut root z kept no_way = (not_broken K f shut, (second_part K sound f 0).1 (shut 0, (z, kept, inl (root, no_way))))

first : (s : ℕ) → Initial A s → s ≡ 0
first s (zero, h, e) = sym e
first s (suc i, h, e) = absurd (omega arith)

either_way : Right a_closed (or (fact 0) (neg (fact 0))) holds
either_way N second r run = ⊎_elim (λ e. inl e) (λ ne. inr ne) (cases_eq ((N.facts (state_at r 0) / 2 ^ 0) % 2) 1)

-- one event alone: where the path goes on, it takes that one
by_one : Right b_closed goes_by_0 holds
by_one N second r run =
    ⊎_elim
    (λ e. inr ((bears_decides 0 (N.arcs (state_at r 0))).0 e))
    (λ e. inl (λ on.
    let some = run.some in
    let arc = run_arc N r run 0 some ((goes_on r 0 (start r some)).1 on.0) in
    let root = second.initial (state_at r 0) run.starts in
    let low = (second.moves (state_at r 0) (event_at r 0) (state_at r (after r 0)) root arc).0 in
    let ev : (get_or (N.arcs (state_at r 0)) arc.0 no_arc).event ≡ 0 = ap (λ (x : Arc). x.event) arc.2 ∙ omega arith in
    both_ways (bears 0 (N.arcs (state_at r 0))) e (in_bears (N.arcs (state_at r 0)) arc.0 0 arc.1 ev)))
    (cases_Bool (bears 0 (N.arcs (state_at r 0))))

-- state 0 of A is open, and no deadlock
both_hold : Right a_first (and (fact 0) (next top)) holds
both_hold N second r run = ⊎_elim (λ no_fact. no_fact has) (λ no_next. no_next (on, tt))
  where
    at : state_at r 0 ≡ 0
    at = first (state_at r 0) (subst (λ ss. (i : ℕ) × (i < length ss) × (get_or ss i 0 ≡ state_at r 0)) second.starts run.starts)

    has : (N.facts (state_at r 0) / 2 ^ 0) % 2 ≡ 1
    has = ap (λ w. (w / 2 ^ 0) % 2) (ap N.facts at ∙ second.open_facts 0 refl)

    live : Deadlock N (state_at r 0) → ⊥
    live dead =
        let e : ◌≡◌ {A = ℕ} 1 0 = sym (ap (λ (ys : List Arc). length ys) (ap N.arcs at ∙ second.open_arcs 0 refl)) ∙ dead in
        omega arith

    moves : Closes N r → goes r 0 ≡ true
    moves (round h _) = goes_loop r 0 h
    moves (stuck e dead _) =
        let some = run.some in
        ⊎_elim (λ h. goes_mid r 0 h) (λ h. let q : places r - 1 ≡ 0 = omega arith in absurd (live (subst (λ k. Deadlock N (state_at r k)) q dead))) (cases_lt (0 + 1) (places r))

    on : Within (unroll r).len 1
    on = (goes_on r 0 (start r run.some)).0 (moves run.closes)

-- state 0 of A is open, and its arc leads to a closed state
not_first : Right a_first (neg (fact 0)) (incomplete 1)
not_first = (not_whole, (second_part a_first sound (neg (fact 0)) 1).1 (refl, (false, kept, inr ((0, true), (0, true), (node, root, refl), here, node, (0, (0, omega arith, refl), tt)))))
  where
    sound : Sound a_first
    sound = (first_is_second a_first (a_bounded (λ s. eqb s 0) (λ s o. let e = eqb-true s 0 o in omega arith))).1

    kept : FreeKept 3 (neg (fact 0)) false
    kept = inl (false, here, (tests.stop (neg (fact 0)) false).0 refl)

    root : Initial A 0
    root = (0, omega arith, refl)

    node : OpenNode A (λ s. eqb s 0) (neg (fact 0)) (0, true)
    node = (refl, refl)

    leads_out : (s j t s' : ℕ) → s ≡ 0 → j < length (A.arcs s) → get_or (A.arcs s) j no_arc ≡ record { event = t; target = s' } → s' ≡ 1
    leads_out zero zero t s' z h e = sym (ap (λ (x : Arc). x.target) e)
    leads_out zero (suc j) t s' z h e = absurd (omega arith)
    leads_out (suc s) j t s' z h e = absurd (omega arith)

    not_whole : Broken a_first (neg (fact 0)) → ⊥
    not_whole (r, run, opens, bad) = go run.closes
      where
        zero_at : (i : ℕ) → i < places r → state_at r i ≡ 0
        zero_at i h = eqb-true (state_at r i) 0 (opens i h)

        go : Closes A r → ⊥
        go (round h arc) =
            let some = run.some in
            let q = leads_out (state_at r (places r - 1)) arc.0 _ _ (zero_at (places r - 1) (omega arith)) arc.1 arc.2 in
            omega (arith, q, zero_at r.back h)
        go (stuck _ dead _) =
            let some = run.some in
            let e : ◌≡◌ {A = ℕ} 1 0 = ap (λ s. length (A.arcs s)) (sym (zero_at (places r - 1) (omega arith))) ∙ dead in
            omega arith

q_open : (i : ℕ) → i < 2 → ltb (state_at Q i) 2 ≡ true
q_open zero h = refl
q_open (suc zero) h = refl
q_open (suc (suc i)) h = absurd (omega arith)

pub nine : Nine
nine = record {
  a_true = λ N second r run. tt;
  a_either = either_way;
  a_fact = at_start a_closed a_sound (fact 0) (λ _. refl) (0, omega arith, refl) false (inl (false, here, (tests.stop (fact 0) false).0 refl)) refl;
  a_goes =
      at_start a_closed a_sound goes_by_0 (λ _. refl) (0, omega arith, refl) ((true, tt), false)
      (inl (((false, tt), false), step ((false, tt), false) ((free_edges 3 goes_by_0 ((true, tt), false) ((false, tt), false)).0 refl) here, (tests.stop goes_by_0 ((false, tt), false)).0 refl)) refl;
  b_goes = by_one;
  b_stops =
      at_start b_closed (first_is_second b_closed b_bounded).1 (neg (next top)) (λ _. refl) (0, omega arith, refl) (true, tt)
      (inl ((false, tt), step (false, tt) ((free_edges 1 (neg (next top)) (true, tt) (false, tt)).0 refl) here, (tests.stop (neg (next top)) (false, tt)).0 refl)) refl;
  a_both = both_hold;
  a_not = not_first;
  a_finally = (twelve.q_run, q_open, twelve.q_finally_2);
}
