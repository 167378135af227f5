-- Formulas of LTL[e] as trees. Assumes nothing.
use Rattle.std.specs.Prelude.{ℕ}

pub data Ltl : Type 0 where
  -- true
  top : Ltl
  -- a fact of the state, by its number
  fact : ℕ → Ltl
  -- some arc of the state bears the event
  enabled : ℕ → Ltl
  -- an arc is taken that bears the event
  taken : ℕ → Ltl
  neg : Ltl → Ltl
  or : Ltl → Ltl → Ltl
  next : Ltl → Ltl
  until : Ltl → Ltl → Ltl
