-- A system for runs of any length. Assumes nothing.
use Rattle.std.specs.Prelude.{[], ◌∷◌}
use Rattle.meaning.specs.Claims.{arc}
use Rattle.meaning.specs.Systems.{System}

-- the facts of a state are its number's bits, and every state has the same two arcs
abbrev pub noise : System
noise = record { facts = λ s. s; arcs = λ _. arc 1 0 ∷ arc 2 7 ∷ []; initial = 0 ∷ [] }
