-- Verdicts on the plants of meaning's examples. Relies on Verdicts.
use Rattle.std.specs.Prelude.{false, ◌==◌, nat_lt}
use Rattle.formula.specs.Ltl.{Ltl, top, fact, enabled, neg, or, next}
use Rattle.meaning.specs.Claims.{A, B, Q, finally}
use Rattle.seconds.specs.Known.{Known}
use Rattle.seconds.specs.Verdicts.{broken, holds, incomplete, Right}

-- plant A, with nothing open
abbrev pub a_closed : Known
a_closed = record { system = A; events = 3; opened = λ _. false }

-- plant A, with state 0 open
abbrev pub a_first : Known
a_first = record { system = A; events = 3; opened = λ s. (s == 0) }

-- plant A, with the states 0 and 1 open
abbrev pub a_two : Known
a_two = record { system = A; events = 3; opened = λ s. nat_lt s 2 }

-- plant B, with nothing open
abbrev pub b_closed : Known
b_closed = record { system = B; events = 1; opened = λ _. false }

-- where the path goes on, event 0 is enabled
abbrev pub goes_by_0 : Ltl
goes_by_0 = or (neg (next top)) (enabled 0)

abbrev pub and : Ltl → Ltl → Ltl
and f g = neg (or (neg f) (neg g))

-- nine verdicts: behind a closed state anything may happen that events allow, and no more
pub record Nine : Type 0 where
  pub a_true : Right a_closed top holds
  pub a_either : Right a_closed (or (fact 0) (neg (fact 0))) holds
  pub a_fact : Right a_closed (fact 0) (incomplete 0)
  pub a_goes : Right a_closed goes_by_0 (incomplete 0)
  pub b_goes : Right b_closed goes_by_0 holds
  pub b_stops : Right b_closed (neg (next top)) (incomplete 0)
  pub a_both : Right a_first (and (fact 0) (next top)) holds
  pub a_not : Right a_first (neg (fact 0)) (incomplete 1)
  pub a_finally : Right a_two (finally (fact 2)) (broken Q)
