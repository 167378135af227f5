-- What a plant stands for, and the limits that every plant keeps. Relies on meaning's systems.
use Rattle.std.specs.Prelude.{◌≡◌, ℕ, ◌^◌, ◌<◌, ◌≤◌, List, length, get_or, slice_index, slice_index_or}
use Rattle.meaning.specs.declared.Arc.{Arc}
use Rattle.meaning.specs.Systems.{System, no_arc}

-- a transition system, how many events there are, the extent below which its states lie, and the most arcs that a state has
pub record Model : Type 0 where
  pub events : ℕ
  pub extent : ℕ
  pub width : ℕ
  pub system : System

-- what is answered for an arc past a list's end
abbrev pub past_arc : Arc
past_arc = record { event = 64; target = 0 }

-- the initial state at an index, and state 0 past the end
abbrev pub initial_at : Model → ℕ → ℕ
initial_at m i = slice_index m.system.initial i

-- the arc of a state at an index
abbrev pub arc_at : Model → ℕ → ℕ → Arc
arc_at m s i = slice_index_or (m.system.arcs s) i past_arc

-- no two places of a list hold the same
abbrev pub Distinct : {A : Type 0} → List A → Type 0
Distinct {A} xs = (i j : ℕ) → (i < j) × (j < length xs) × ((d : A) → slice_index_or xs i d ≡ slice_index_or xs j d) → ⊥

-- the numbers are within their limits
abbrev pub Limits : Model → Type 0
Limits m = (1 ≤ m.events) × (m.events ≤ 64) × (1 ≤ m.extent) × (m.extent ≤ 2 ^ 32) × (m.width ≤ 16)

-- the initial states are at most 16, differ, and lie below the extent
abbrev pub Begins : Model → Type 0
Begins m =
    (length m.system.initial ≤ 16)
    × Distinct m.system.initial
    × ((i : ℕ) → i < length m.system.initial → initial_at m i < m.extent)

-- the arcs of a state are no more than the width, and differ
abbrev pub Branches : Model → Type 0
Branches m =
    ((s : ℕ) → length (m.system.arcs s) ≤ m.width)
    × ((s : ℕ) → Distinct (m.system.arcs s))

-- they bear events that there are, and lead below the extent
abbrev pub Leads : Model → Type 0
Leads m =
    ((s i : ℕ) → i < length (m.system.arcs s) → (get_or (m.system.arcs s) i no_arc).event < m.events)
    × ((s i : ℕ) → i < length (m.system.arcs s) → (get_or (m.system.arcs s) i no_arc).target < m.extent)

-- facts are words, and a state at or beyond the extent has no facts and no arcs
abbrev pub Ends : Model → Type 0
Ends m =
    ((s : ℕ) → m.system.facts s < 2 ^ 32)
    × ((s : ℕ) → m.extent ≤ s → m.system.facts s ≡ 0)
    × ((s : ℕ) → m.extent ≤ s → length (m.system.arcs s) ≡ 0)

-- the model is one that a plant may stand for
pub record Lawful (m : Model) : Type 0 where
  pub limits : Limits m
  pub begins : Begins m
  pub branches : Branches m
  pub leads : Leads m
  pub ends : Ends m
