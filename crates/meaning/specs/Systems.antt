-- Labelled transition systems. Assumes nothing.
use Rattle.std.specs.Prelude.{◌≡◌, ℕ, ◌/◌, ◌%◌, ◌^◌, ◌<◌, List, length, get_or, slice_index, slice_index_or}
use Rattle.meaning.specs.declared.Arc.{Arc}

-- of each state a word of facts, whose bit p is fact p, and a list of arcs; and the initial states
pub record System : Type 0 where
  pub facts : ℕ → ℕ
  pub arcs : ℕ → List Arc
  pub initial : List ℕ

-- what stands for an arc past a list's end; every index below is within its list
abbrev pub no_arc : Arc
no_arc = record { event = 0; target = 0 }

-- fact p is one of the facts of s
abbrev pub HasFact : System → ℕ → ℕ → Type 0
HasFact M s p = (M.facts s / 2 ^ p) % 2 ≡ 1

-- some arc of s bears t
abbrev pub Enables : System → ℕ → ℕ → Type 0
Enables M s t = (j : ℕ) × (j < length (M.arcs s)) × ((get_or (M.arcs s) j no_arc).event ≡ t)

-- there is an arc from s, bearing t, to s'
abbrev pub HasArc : System → ℕ → ℕ → ℕ → Type 0
HasArc M s t s' = (j : ℕ) × (j < length (M.arcs s)) × (slice_index_or (M.arcs s) j no_arc ≡ record { event = t; target = s' })

-- no arc leaves s
abbrev pub Deadlock : System → ℕ → Type 0
Deadlock M s = length (M.arcs s) ≡ 0

-- s is an initial state
abbrev pub Initial : System → ℕ → Type 0
Initial M s = (i : ℕ) × (i < length M.initial) × (slice_index M.initial i ≡ s)
