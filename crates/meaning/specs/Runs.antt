-- Runs: finite writings of paths that end in a deadlock or go round a loop. Relies on Systems and Paths.
use Rattle.std.specs.Prelude.{◌≡◌, ℕ, zero, suc, ◌+◌, ◌-◌, ◌<◌, ◌≤◌, cond, List, length, nat_lt, slice_index}
use Rattle.formula.specs.Ltl.{Ltl}
use Rattle.meaning.specs.Systems.{System, HasArc, Deadlock, Initial}
use Rattle.meaning.specs.Paths.{Path, endless, ends, Holds}

-- the states and events of m places, and the place that the last one leads back to, or m where it leads nowhere
pub record Run : Type 0 where
  pub states : List ℕ
  pub events : List ℕ
  pub back : ℕ

-- how many places
abbrev pub places : Run → ℕ
places r = length r.states

abbrev pub state_at : Run → ℕ → ℕ
state_at r i = slice_index r.states i

abbrev pub event_at : Run → ℕ → ℕ
event_at r i = slice_index r.events i

-- how the run ends: the last arc leads back to a place, or there is none, and the event is written 64
pub data Closes (M : System) (r : Run) : Type 0 where
  round : r.back < places r → HasArc M (state_at r (places r - 1)) (event_at r (places r - 1)) (state_at r r.back) → Closes M r
  stuck : r.back ≡ places r → Deadlock M (state_at r (places r - 1)) → event_at r (places r - 1) ≡ 64 → Closes M r

-- the arrays and the number are a run of the system
pub record IsRun (M : System) (r : Run) : Type 0 where
  pub some : 1 ≤ places r
  pub parallel : length r.events ≡ places r
  pub starts : Initial M (state_at r 0)
  pub steps : (i : ℕ) → i + 1 < places r → HasArc M (state_at r i) (event_at r i) (state_at r (i + 1))
  pub closes : Closes M r

-- the place after place p: the next one, and after the last one the place that it leads back to
abbrev pub after : Run → ℕ → ℕ
after r p = cond (nat_lt (p + 1) (places r)) (p + 1) r.back

-- the place at position i of the path that the run stands for
abbrev pub place : Run → ℕ → ℕ
place r zero = 0
place r (suc i) = after r (place r i)

-- that path: endless where the last place leads back, and else as long as the run
abbrev pub unroll : Run → Path
unroll r = record {
  state = λ i. state_at r (place r i);
  event = λ i. event_at r (place r i);
  len = cond (nat_lt r.back (places r)) endless (ends (places r));
}

-- the run satisfies the formula: it holds at place 0
abbrev pub Satisfies : System → Run → Ltl → Type 0
Satisfies M r f = Holds M (unroll r) 0 f

abbrev pub Violates : System → Run → Ltl → Type 0
Violates M r f = Satisfies M r f → ⊥
