-- What this crate proves: the test is right, and the worked examples. Relies on Truth.
use Rattle.std.specs.Prelude.{ℕ, ◌<◌, [], ◌∷◌, Decides, slice_index, slice_index_or}
use Rattle.formula.specs.Ltl.{Ltl, top, fact, taken, neg, next, until}
use Rattle.meaning.specs.declared.Arc.{Arc}
use Rattle.meaning.specs.Systems.{System}
use Rattle.meaning.specs.Paths.{Within, Holds}
use Rattle.meaning.specs.Runs.{Run, places, place, unroll, IsRun, Satisfies, Violates}
use Rattle.meaning.specs.Truth.{truth}

-- at every position of every run's path the test says true exactly where the formula holds
abbrev pub Decided : Type 0
Decided = (M : System) (r : Run) (f : Ltl) → 0 < places r → (i : ℕ) → Within (unroll r).len i → Decides (truth M r f (place r i)) (Holds M (unroll r) i f)

abbrev pub arc : ℕ → ℕ → Arc
arc t s = record { event = t; target = s }

-- plant A: 0 –0→ 1, 1 –1→ 1, 1 –2→ 2, with facts 1, 2 and 4
abbrev pub A : System
A = record {
  facts = λ s. slice_index (1 ∷ 2 ∷ 4 ∷ []) s;
  arcs = λ s. slice_index_or ((arc 0 1 ∷ []) ∷ (arc 1 1 ∷ arc 2 2 ∷ []) ∷ [] ∷ []) s [];
  initial = 0 ∷ [];
}

-- plant B: one state, with no facts and no arcs
abbrev pub B : System
B = record { facts = λ _. 0; arcs = λ _. []; initial = 0 ∷ [] }

-- a run of A that goes round at state 1
abbrev pub Q : Run
Q = record { states = 0 ∷ 1 ∷ []; events = 0 ∷ 1 ∷ []; back = 1 }

-- a run of A that ends at state 2
abbrev pub D : Run
D = record { states = 0 ∷ 1 ∷ 2 ∷ []; events = 0 ∷ 2 ∷ 64 ∷ []; back = 3 }

-- the run of B
abbrev pub O : Run
O = record { states = 0 ∷ []; events = 64 ∷ []; back = 1 }

abbrev pub finally : Ltl → Ltl
finally f = until top f

abbrev pub globally : Ltl → Ltl
globally f = neg (until top (neg f))

-- three runs, and twelve formulas on them
pub record Twelve : Type 0 where
  pub q_run : IsRun A Q
  pub q_finally_2 : Violates A Q (finally (fact 2))
  pub q_next_always_1 : Satisfies A Q (next (globally (fact 1)))
  pub q_again_taken : Satisfies A Q (globally (finally (taken 1)))
  pub q_not_0 : Violates A Q (neg (fact 0))
  pub d_run : IsRun A D
  pub d_goes_on : Violates A D (globally (next top))
  pub d_finally_2 : Satisfies A D (finally (fact 2))
  pub d_stops : Satisfies A D (finally (neg (next top)))
  pub d_again_1 : Violates A D (globally (finally (fact 1)))
  pub o_run : IsRun B O
  pub o_stops : Satisfies B O (neg (next top))
  pub o_next_false : Violates B O (next (neg top))
  pub o_until_0 : Violates B O (until top (fact 0))
  pub o_always : Satisfies B O (globally top)
