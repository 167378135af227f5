-- Table plants as words: S, E, I and A; I initial states; S facts; S arc counts; A events; A targets. Assumes nothing.
use Rattle.std.specs.Prelude.{ℕ, ◌+◌, max, List, map, take, drop, fold, sum, slice_index}
use Rattle.std.specs.List.{zip}
use Rattle.meaning.specs.declared.Arc.{Arc}
use Rattle.plant.specs.Model.{Model}

-- S, how many states
abbrev pub state_count : List ℕ → ℕ
state_count ws = slice_index ws 0

-- E, how many events
abbrev pub event_count : List ℕ → ℕ
event_count ws = slice_index ws 1

-- I, how many initial states
abbrev pub initial_count : List ℕ → ℕ
initial_count ws = slice_index ws 2

-- A, how many arcs
abbrev pub arc_count : List ℕ → ℕ
arc_count ws = slice_index ws 3

-- where each array begins
abbrev pub at_facts : List ℕ → ℕ
at_facts ws = 4 + initial_count ws

abbrev pub at_counts : List ℕ → ℕ
at_counts ws = at_facts ws + state_count ws

abbrev pub at_events : List ℕ → ℕ
at_events ws = at_counts ws + state_count ws

abbrev pub at_targets : List ℕ → ℕ
at_targets ws = at_events ws + arc_count ws

-- how many words there are to be
abbrev pub size : List ℕ → ℕ
size ws = at_targets ws + arc_count ws

-- n elements from a place on
abbrev pub part : {X : Type 0} → ℕ → ℕ → List X → List X
part from n xs = take n (drop from xs)

abbrev pub initials : List ℕ → List ℕ
initials ws = part 4 (initial_count ws) ws

abbrev pub facts : List ℕ → List ℕ
facts ws = part (at_facts ws) (state_count ws) ws

abbrev pub counts : List ℕ → List ℕ
counts ws = part (at_counts ws) (state_count ws) ws

abbrev pub events : List ℕ → List ℕ
events ws = part (at_events ws) (arc_count ws) ws

abbrev pub targets : List ℕ → List ℕ
targets ws = part (at_targets ws) (arc_count ws) ws

-- arcs from two parallel arrays
abbrev pub paired : List ℕ → List ℕ → List Arc
paired es ts = map (λ p. record { event = p.0; target = p.1 }) (zip es ts)

-- the arcs of all states
abbrev pub all_arcs : List ℕ → List Arc
all_arcs ws = paired (events ws) (targets ws)

-- the arcs of a state stand after those of all lower states
abbrev pub arcs_of : List ℕ → ℕ → List Arc
arcs_of ws s = part (sum (take s (counts ws))) (slice_index (counts ws) s) (all_arcs ws)

-- the largest of some numbers
abbrev pub largest : List ℕ → ℕ
largest ns = fold max 0 ns

-- what the words mean
abbrev pub meant : List ℕ → Model
meant ws = record {
  events = event_count ws;
  extent = state_count ws;
  width = largest (counts ws);
  system = record { facts = λ s. slice_index (facts ws) s; arcs = arcs_of ws; initial = initials ws };
}
