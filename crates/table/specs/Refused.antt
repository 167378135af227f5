-- Which words are no table plant, and why. Relies on Words and refusal's tables of refusals.
use Rattle.std.specs.Prelude.{◌≡◌, ℕ, ◌+◌, ◌<◌, ◌≤◌, ◌⊎◌, List, [], ◌∷◌, length, take, sum, ◌≢◌, slice_index, slice_index_or}
use Rattle.refusal.specs.Rows.{Row, Lowest, Fails}
use Rattle.refusal.specs.declared.Layer.TheVariants.{Plant}
use Rattle.meaning.specs.Systems.{no_arc}
use Rattle.table.specs.Words.{state_count, event_count, initial_count, arc_count, at_counts, at_events, at_targets, size, initials, counts, arcs_of}

-- the least and the most of S, E, I and A
abbrev pub limits : List (ℕ × ℕ)
limits = (1, 4096) ∷ (1, 64) ∷ (0, 16) ∷ (0, 65536) ∷ []

-- S, E, I or A at place i is outside its limits
abbrev pub OffLimits : List ℕ → ℕ → Type 0
OffLimits ws i = (i < 4) × ((slice_index ws i < (slice_index_or limits i (0, 0)).0) ⊎ ((slice_index_or limits i (0, 0)).1 < slice_index ws i))

-- place i is one of n from a place on, and its word is not below the limit
abbrev pub Beyond : List ℕ → ℕ → ℕ → ℕ → ℕ → Type 0
Beyond ws from n limit i = (from ≤ i) × (i < from + n) × (limit ≤ slice_index ws i)

-- the word at place i is out of range: an initial state, an arc count, an event or a target
pub data OutOfRange (ws : List ℕ) (i : ℕ) : Type 0 where
  initial : Beyond ws 4 (initial_count ws) (state_count ws) i → OutOfRange ws i
  count : Beyond ws (at_counts ws) (state_count ws) 17 i → OutOfRange ws i
  event : Beyond ws (at_events ws) (arc_count ws) (event_count ws) i → OutOfRange ws i
  target : Beyond ws (at_targets ws) (arc_count ws) (state_count ws) i → OutOfRange ws i

-- at place i stands an initial state, or the event of an arc of a state, that stands there before
pub data Repeated (ws : List ℕ) (i : ℕ) : Type 0 where
  initial : (j k : ℕ) → j < k → k < initial_count ws → slice_index (initials ws) j ≡ slice_index (initials ws) k → i ≡ 4 + k → Repeated ws i
  arc : (s j k : ℕ) → j < k → k < slice_index (counts ws) s → slice_index_or (arcs_of ws s) j no_arc ≡ slice_index_or (arcs_of ws s) k no_arc → i ≡ at_events ws + (sum (take s (counts ws)) + k) → Repeated ws i

-- what is refused, in its order
abbrev pub rows : List ℕ → List Row
rows ws =
    record { number = 31; layer = Plant; applies = Fails (4 ≤ length ws) }
    ∷ record { number = 32; layer = Plant; applies = Lowest (OffLimits ws) }
    ∷ record { number = 31; layer = Plant; applies = Fails (length ws ≡ size ws) }
    ∷ record { number = 33; layer = Plant; applies = Lowest (OutOfRange ws) }
    ∷ record { number = 33; layer = Plant; applies = λ i. (sum (counts ws) ≢ arc_count ws) × (i ≡ 3) }
    ∷ record { number = 34; layer = Plant; applies = Lowest (Repeated ws) }
    ∷ []
