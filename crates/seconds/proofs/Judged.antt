-- The plant's system among its second systems, and the three verdicts. Assumes nothing.
use Rattle.std.proofs.Common.{◌≡◌, ℕ, zero, suc, ◌-◌, ◌^◌, ◌<◌, ◌≤◌, true, cond, ◌⊎◌, List, [], length, get_or, sym, refl, ap, ◌∙◌, subst, inl, inr, ⊎_elim, arith}
use Rattle.std.proofs.lemmas.Bool.{cases_Bool, cases_eq, cond_both, cond-true}
use Rattle.std.proofs.lemmas.Bool.Decides.{not_from_Decides}
use Rattle.formula.specs.Atoms.{Atom}
use Rattle.formula.specs.Ltl.{Ltl}
use Rattle.meaning.specs.Runs.{Run, places, state_at, Closes, round, stuck, IsRun, Violates}
use Rattle.meaning.specs.Systems.{System, HasArc}
use Rattle.meaning.specs.Truth.{truth}
use Rattle.meaning.specs.declared.Arc.{Arc}
use Rattle.meaning.proofs.Examples.{start}
use Rattle.meaning.proofs.Right.{decided}
use Rattle.tableau.specs.Along.{Fits}
use Rattle.tableau.specs.Lassos.{truths}
use Rattle.tableau.proofs.Arcs.{In}
use Rattle.tableau.proofs.Lassoed.{lasso_violates, low_run, violated_lasso}
use Rattle.seconds.specs.Claims.{FirstIsSecond, BrokenInAll, DoubtParts, ExactlyOne, HoldsElse}
use Rattle.seconds.specs.Known.{Known, Second, FirstClosed, Broken, Doubtful, Spoiled, Sound}
use Rattle.seconds.specs.Verdicts.{broken, holds, incomplete}

-- a run whose states are the same in two systems
module _ (M N : System) (f : Ltl) (r : Run) (run : IsRun M r) (starts : N.initial ≡ M.initial)
    (facts : (i : ℕ) → i < places r → N.facts (state_at r i) ≡ M.facts (state_at r i))
    (arcs : (i : ℕ) → i < places r → N.arcs (state_at r i) ≡ M.arcs (state_at r i)) where
  arc_moved : (i t s : ℕ) → i < places r → HasArc M (state_at r i) t s → HasArc N (state_at r i) t s
  arc_moved i t s h arc = subst (λ ys. In ys t s) (sym (arcs i h)) arc

  closes_moved : Closes M r → Closes N r
  closes_moved (round h arc) = round h (arc_moved (places r - 1) _ _ (omega arith) arc)
  closes_moved (stuck e dead last) =
      let some = run.some in
      stuck e (ap (λ (ys : List Arc). length ys) (arcs (places r - 1) (omega arith)) ∙ dead) last

  pub run_moved : IsRun N r
  run_moved = record {
    some = run.some;
    parallel = run.parallel;
    starts = subst (λ ss. (i : ℕ) × (i < length ss) × (get_or ss i 0 ≡ state_at r 0)) (sym starts) run.starts;
    steps = λ i h. arc_moved i _ _ (omega arith) (run.steps i h);
    closes = closes_moved run.closes;
  }

  pub violates_moved : Violates M r f → Violates N r f
  violates_moved bad =
      let low = low_run M r run in
      let v : ℕ → Atom f = truths M r f in
      let (l, no_way) = violated_lasso M r run.some low f bad in
      lasso_violates N r run.some low f v
      (record {
        fits = λ p h.
            subst (λ w. Fits w (N.arcs (state_at r p)) f (v p)) (sym (facts p h))
            (subst (λ ys. Fits (M.facts (state_at r p)) ys f (v p)) (sym (arcs p h)) (l.fits p h));
        steps = l.steps;
        turns = l.turns;
        fair = l.fair;
        stops = l.stops;
      }) no_way

pub broken_in_all : BrokenInAll
broken_in_all K f r run opens bad N second = (
  run_moved K.system N f r run second.starts (λ i h. second.open_facts _ (opens i h)) (λ i h. second.open_arcs _ (opens i h)),
  violates_moved K.system N f r run second.starts (λ i h. second.open_facts _ (opens i h)) (λ i h. second.open_arcs _ (opens i h)) bad,
)

pub first_is_second : FirstIsSecond
first_is_second K b = (
  record {
    count = 2 ^ 32;
    starts = refl;
    initial = b.starts;
    facts = b.facts;
    moves = b.moves;
    open_states = b.states;
    open_facts = λ s o. refl;
    open_arcs = λ s o. refl;
  },
  record {
    starts = b.starts;
    states = b.states;
    facts = λ s o. b.facts s (b.states s o);
    moves = λ s t s' o arc. b.moves s t s' (b.states s o) arc;
  },
)

-- the second system whose closed states have neither facts nor arcs
module _ (K : Known) (sound : Sound K) where
  abbrev bare : System
  bare = record {
    facts = λ s. cond (K.opened s) (K.system.facts s) 0;
    arcs = λ s. cond (K.opened s) (K.system.arcs s) [];
    initial = K.system.initial;
  }

  bare_facts : (s : ℕ) → bare.facts s < 2 ^ 32
  bare_facts s = cond_both (K.opened s) (K.system.facts s) 0 (λ w. w < 2 ^ 32) (λ o. sound.facts s o) (λ _. omega arith)

  bare_moves : (s t s' : ℕ) → HasArc bare s t s' → (t < K.events) × (s' < 2 ^ 32)
  bare_moves s t s' =
      cond_both (K.opened s) (K.system.arcs s) [] (λ ys. In ys t s' → (t < K.events) × (s' < 2 ^ 32)) (λ o arc. sound.moves s t s' o arc) (λ _ arc. absurd (omega (arith, arc.1)))

  bare_second : Second K bare
  bare_second = record {
    count = 2 ^ 32;
    starts = refl;
    initial = sound.starts;
    facts = λ s _. bare_facts s;
    moves = λ s t s' _ arc. bare_moves s t s' arc;
    open_states = sound.states;
    open_facts = λ s o. cond-true (K.opened s) (K.system.facts s) 0 o;
    open_arcs = λ s o. cond-true (K.opened s) (K.system.arcs s) [] o;
  }

-- the first closed state of a run, if it has one
module _ (K : Known) (r : Run) where
  look : (n : ℕ) → n ≤ places r → ((i : ℕ) → i < n → K.opened (state_at r i) ≡ true) ⊎ ((c : ℕ) × FirstClosed K r c)
  look zero h = inl (λ i l. absurd (omega arith))
  look (suc n) h =
      ⊎_elim
      (λ all.
      ⊎_elim
      (λ o. inl (λ i l. ⊎_elim (λ e. subst (λ k. K.opened (state_at r k) ≡ true) (sym e) o) (λ ne. all i (omega (arith, ne))) (cases_eq i n)))
      (λ shut. inr (state_at r n, (n, h, refl, shut, all)))
      (cases_Bool (K.opened (state_at r n))))
      (λ found. inr found)
      (look n (omega arith))

module _ (K : Known) (f : Ltl) where
  parts : Doubtful K f → Broken K f ⊎ ((c : ℕ) × Spoiled K f c)
  parts (N, second, (r, run, bad)) =
      ⊎_elim
      (λ opens.
      inl (
        r,
        run_moved N K.system f r run (sym second.starts) (λ i h. sym (second.open_facts _ (opens i h))) (λ i h. sym (second.open_arcs _ (opens i h))),
        opens,
        violates_moved N K.system f r run (sym second.starts) (λ i h. sym (second.open_facts _ (opens i h))) (λ i h. sym (second.open_arcs _ (opens i h))) bad,
      ))
      (λ first. inr (first.0, (N, second, (r, run, first.1, bad))))
      (look K r (places r) (omega arith))

  broken_bare : Sound K → Broken K f → Doubtful K f
  broken_bare sound (r, run, opens, bad) =
      let q = broken_in_all K f r run opens bad (bare K sound) (bare_second K sound) in
      (bare K sound, bare_second K sound, (r, q.0, q.1))

  spoiled_doubt : (c : ℕ) → Spoiled K f c → Doubtful K f
  spoiled_doubt c (N, second, (r, run, _, bad)) = (N, second, (r, run, bad))

pub doubt_parts : DoubtParts
doubt_parts K sound f = (parts K f, λ d. ⊎_elim (broken_bare K f sound) (λ s. spoiled_doubt K f s.0 s.1) d)

pub holds_else : HoldsElse
holds_else K f whole clean N second r run =
    let d = decided N r f run.some 0 (start r run.some) in
    ⊎_elim
    (λ e. d.0 e)
    (λ e. absurd (⊎_elim whole (λ s. clean s.0 s.1) (parts K f (N, second, (r, run, not_from_Decides (truth N r f 0) d e)))))
    (cases_Bool (truth N r f 0))

pub exactly_one : ExactlyOne
exactly_one K sound f = record {
  broken_holds = λ r b all.
      let (N, second, (r', run, bad)) = broken_bare K f sound (r, b.0, b.1, b.2) in
      bad (all N second r' run);
  broken_incomplete = λ r c b i. i.0 (r, b.0, b.1, b.2);
  holds_incomplete = λ c all i. let (N, second, (r, run, _, bad)) = i.1 in bad (all N second r run);
  some = λ none.
      let whole : Broken K f → ⊥ = λ b. none (broken b.0) (b.1, b.2, b.3) in
      none holds (holds_else K f whole (λ c s. none (incomplete c) (whole, s)));
}
