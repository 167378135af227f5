-- What the parts that were read stand for. Relies on Words and plant's models.
use Rattle.std.specs.Prelude.{ℕ, List, [], length, vec_items, slice_get}
use Rattle.std.specs.Option.{option_map_or}
use Rattle.meaning.specs.declared.Arc.{Arc}
use Rattle.plant.specs.Model.{Model}
use Rattle.table.specs.Words.{part}
use Rattle.table.specs.declared.parts.Parts.{Parts}
use Rattle.table.specs.declared.parts.State.{State}

-- the facts of state s: none past the end
abbrev pub facts_at : List State → ℕ → ℕ
facts_at states s = option_map_or (λ (t : State). t.facts) (slice_get states s) 0

-- the arcs of state s, among those of all states: none past the end
abbrev pub arcs_at : List Arc → List State → ℕ → List Arc
arcs_at arcs states s = option_map_or (λ (t : State). part t.from t.count arcs) (slice_get states s) []

abbrev pub model_of : Parts → Model
model_of p = record {
  events = p.events;
  extent = length (vec_items p.states);
  width = p.width;
  system = record { facts = facts_at (vec_items p.states); arcs = arcs_at (vec_items p.arcs) (vec_items p.states); initial = vec_items p.initial };
}
