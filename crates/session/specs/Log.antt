-- Calls and answers of the code, as turns of a history. Relies on Told.
use Rattle.std.specs.Prelude.{List, [], ◌∷◌, Result}
use Rattle.refusal.specs.declared.Refusal.{Refusal}
use Rattle.session.specs.History.{Asked, open_state, forget, begin, step, leave, Told, done, reached, Turn, turn}
use Rattle.session.specs.declared.turns.Call.{Call}
use Rattle.session.specs.declared.turns.Call.TheVariants.{Open, Forget, Begin, Step, Leave}
use Rattle.session.specs.declared.turns.Reply.{Reply}
use Rattle.session.specs.declared.turns.Reply.TheVariants.{Done, At}
use Rattle.session.specs.Told.{told}

-- what a call asks
abbrev pub asks : Call → Asked
asks (Open s) = open_state s
asks (Forget s) = forget s
asks (Begin i) = begin i
asks (Step j) = step j
asks Leave = leave

-- what a reply tells
abbrev pub granted_by : Reply → Told
granted_by Done = done
granted_by (At s) = reached s

-- what an answer tells
abbrev pub tells : Result Reply Refusal → Told
tells answer = told granted_by answer

-- the history h and then these calls with their answers
abbrev pub logged : List Call → List (Result Reply Refusal) → List Turn → List Turn
logged [] answers h = h
logged (c ∷ cs) [] h = h
logged (c ∷ cs) (a ∷ answers) h = logged cs answers (turn (asks c) (tells a) ∷ h)
