-- Histories: what was asked of a session and what it answered, from its beginning on. Relies on nothing but refusals.
use Rattle.std.specs.Prelude.{◌≡◌, ℕ, ◌<◌, Bool, true, false, IsTrue, if◌then◌else◌, List, [], ◌∷◌, length, Some, None, Option, ◌==◌, slice_index}
use Rattle.refusal.specs.declared.Refusal.{Refusal}
use Rattle.plant.specs.Model.{Distinct}

-- a call: to open or forget a state, to begin a walk at an initial state, to step along an arc, to leave the walk
pub data Asked : Type 0 where
  open_state : ℕ → Asked
  forget : ℕ → Asked
  begin : ℕ → Asked
  step : ℕ → Asked
  leave : Asked

-- an answer: granted, granted with the state reached, or refused
pub data Told : Type 0 where
  done : Told
  reached : ℕ → Told
  refused : Refusal → Told

-- a call with its answer
pub record Turn : Type 0 where
  pub asked : Asked
  pub told : Told

abbrev pub turn : Asked → Told → Turn
turn c t = record { asked = c; told = t }

abbrev pub granted : Told → Bool
granted done = true
granted (reached s) = true
granted (refused r) = false

-- whether s is open after a granted call, which it was or was not before
abbrev pub opens : Asked → ℕ → Bool → Bool
opens (open_state t) s before = if t == s then true else before
opens (forget t) s before = if t == s then false else before
opens (begin i) s before = before
opens (step j) s before = before
opens leave s before = before

-- s is open after the history, newest turn first: the latest granted open or forget of it was an open
abbrev pub is_open : List Turn → ℕ → Bool
is_open [] s = false
is_open (x ∷ h) s = if granted x.told then opens x.asked s (is_open h s) else is_open h s

-- the walk after a call that answers no state
abbrev pub stays : Asked → Option ℕ → Option ℕ
stays (open_state t) before = before
stays (forget t) before = before
stays (begin i) before = before
stays (step j) before = before
stays leave before = None

-- the walk after a turn: a state that is reached is where it is now
abbrev pub walks : Asked → Told → Option ℕ → Option ℕ
walks c done before = stays c before
walks c (reached s) before = Some s
walks c (refused r) before = before

-- the state of the walk that is under way after the history, if one is
abbrev pub walk_of : List Turn → Option ℕ
walk_of [] = None
walk_of (x ∷ h) = walks x.asked x.told (walk_of h)

-- ss lists the open states, each once
pub record Lists (h : List Turn) (ss : List ℕ) : Type 0 where
  pub apart : Distinct ss
  pub only : (i : ℕ) → i < length ss → IsTrue (is_open h (slice_index ss i))
  pub all : (s : ℕ) → IsTrue (is_open h s) → (i : ℕ) × (i < length ss) × (slice_index ss i ≡ s)
