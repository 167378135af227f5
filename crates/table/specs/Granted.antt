-- What is granted: a plant that is what the words mean. Relies on Words, Refused and Parts.
use Rattle.std.specs.Prelude.{◌≡◌, ℕ, ◌+◌, ◌<◌, ◌≤◌, List, length, vec_items, slice_index}
use Rattle.std.specs.List.{All}
use Rattle.refusal.specs.Rows.{Clear}
use Rattle.plant.specs.Model.{Model, Lawful}
use Rattle.table.specs.Words.{state_count, event_count, arc_count, initials, facts, counts, all_arcs, arcs_of, largest, meant}
use Rattle.table.specs.Refused.{rows}
use Rattle.table.specs.Parts.{facts_at, arcs_at}
use Rattle.table.specs.declared.parts.Parts.{Parts}
use Rattle.table.specs.declared.parts.State.{State}

-- no refusal applies to the words, and the model is what they mean
pub record Granted (ws : List ℕ) (M : Model) : Type 0 where
  pub clear : Clear (rows ws)
  pub means : M ≡ meant ws
  pub lawful : Lawful M

-- the states are those that the words say
pub record Stated (ws : List ℕ) (states : List State) : Type 0 where
  pub many : length states ≡ state_count ws
  pub by_facts : (s : ℕ) → s < state_count ws → facts_at states s ≡ slice_index (facts ws) s
  pub by_arcs : (s : ℕ) → s < state_count ws → arcs_at (all_arcs ws) states s ≡ arcs_of ws s
  pub inside : All (λ (t : State). t.from + t.count ≤ arc_count ws) states

-- the parts are those that the words say
pub record Read (ws : List ℕ) (p : Parts) : Type 0 where
  pub events : p.events ≡ event_count ws
  pub width : p.width ≡ largest (counts ws)
  pub initial : vec_items p.initial ≡ initials ws
  pub stated : Stated ws (vec_items p.states)
  pub arcs : vec_items p.arcs ≡ all_arcs ws
