-- The worked examples, by computing the test. Assumes nothing.
use Rattle.std.proofs.Common.{◌≡◌, ℕ, zero, suc, ◌+◌, ◌<◌, true, false, ltb, refl, ⊎_elim, arith}
use Rattle.std.proofs.lemmas.Bool.{cases_lt, both_ways, ltb-true}
use Rattle.formula.specs.Ltl.{Ltl, top, fact, taken, neg, next, until}
use Rattle.meaning.specs.Systems.{System, HasArc}
use Rattle.meaning.specs.Paths.{Within}
use Rattle.meaning.specs.Runs.{Run, places, state_at, event_at, unroll, round, stuck, Satisfies, Violates}
use Rattle.meaning.specs.Truth.{truth}
use Rattle.meaning.specs.Claims.{A, B, Q, D, O, finally, globally, Twelve}
use Rattle.meaning.proofs.Places.{within_loop, to_line}
use Rattle.meaning.proofs.Right.{decided}

pub start : (r : Run) → 0 < places r → Within (unroll r).len 0
start r some = ⊎_elim (λ loop. within_loop r 0 loop) (λ line. to_line r 0 line some) (cases_lt r.back (places r))

yes' : (M : System) (r : Run) (f : Ltl) → truth M r f 0 ≡ true → ltb 0 (places r) ≡ true → Satisfies M r f
yes' M r f e some = let s = ltb-true _ _ some in (decided M r f s 0 (start r s)).0 e

no' : (M : System) (r : Run) (f : Ltl) → truth M r f 0 ≡ false → ltb 0 (places r) ≡ true → Violates M r f
no' M r f e some h = let s = ltb-true _ _ some in both_ways (truth M r f 0) e ((decided M r f s 0 (start r s)).1 h)

q_steps : (i : ℕ) → i + 1 < 2 → HasArc A (state_at Q i) (event_at Q i) (state_at Q (i + 1))
q_steps zero h = (0, omega arith, refl)
q_steps (suc i) h = absurd (omega arith)

d_steps : (i : ℕ) → i + 1 < 3 → HasArc A (state_at D i) (event_at D i) (state_at D (i + 1))
d_steps zero h = (0, omega arith, refl)
d_steps (suc zero) h = (1, omega arith, refl)
d_steps (suc (suc i)) h = absurd (omega arith)

pub twelve : Twelve
twelve = record {
  q_run = record { some = omega arith; parallel = refl; starts = (0, omega arith, refl); steps = q_steps; closes = round (omega arith) (0, omega arith, refl) };
  q_finally_2 = no' A Q (finally (fact 2)) refl refl;
  q_next_always_1 = yes' A Q (next (globally (fact 1))) refl refl;
  q_again_taken = yes' A Q (globally (finally (taken 1))) refl refl;
  q_not_0 = no' A Q (neg (fact 0)) refl refl;
  d_run = record { some = omega arith; parallel = refl; starts = (0, omega arith, refl); steps = d_steps; closes = stuck refl refl refl };
  d_goes_on = no' A D (globally (next top)) refl refl;
  d_finally_2 = yes' A D (finally (fact 2)) refl refl;
  d_stops = yes' A D (finally (neg (next top))) refl refl;
  d_again_1 = no' A D (globally (finally (fact 1))) refl refl;
  o_run = record { some = omega arith; parallel = refl; starts = (0, omega arith, refl); steps = λ i h. absurd (omega arith); closes = stuck refl refl refl };
  o_stops = yes' B O (neg (next top)) refl refl;
  o_next_false = no' B O (next (neg top)) refl refl;
  o_until_0 = no' B O (until top (fact 0)) refl refl;
  o_always = yes' B O (globally top) refl refl;
}
