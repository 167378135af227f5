use Rattle.std.proofs.Common.{◌≡◌, ℕ, ◌+◌, ◌<◌, ◌≤◌, length, get_or, take, drop, sum, vec_items}
use Rattle.std.specs.Iterator.Adapters.{zip_first, zip_second}
use Rattle.std.specs.Slice.Iter.{iter_rest}
use Rattle.std.specs.List.{All}
use Rattle.table.specs.Words.{state_count, arc_count, facts, counts, all_arcs, arcs_of}
use Rattle.table.specs.declared.parts.State.{State}
use Rattle.table.specs.Parts.{facts_at, arcs_at}
use Rattle.table.proofs.sections.Sections.states.Given as goal

abbrev pub invariant-loop-facts : goal.invariant-loop-facts
invariant-loop-facts l = record {
  can : (goal.iterator-loop-facts).can_next l.facts-iterator;
  finite : (goal.iterator-loop-facts).is_finite l.facts-iterator;
  facts_left : iter_rest (zip_first l.facts-iterator) ≡ drop (length (vec_items l.states)) (facts l.self.words.now);
  counts_left : iter_rest (zip_second l.facts-iterator) ≡ drop (length (vec_items l.states)) (counts l.self.words.now);
  few : length (vec_items l.states) ≤ state_count l.self.words.now;
  place : l.from ≡ sum (take (length (vec_items l.states)) (counts l.self.words.now));
  by_facts : (s : ℕ) → s < length (vec_items l.states) → facts_at (vec_items l.states) s ≡ get_or (facts l.self.words.now) s 0;
  by_arcs : (s : ℕ) → s < length (vec_items l.states) → arcs_at (all_arcs l.self.words.now) (vec_items l.states) s ≡ arcs_of l.self.words.now s;
  inside : All (λ (t : State). t.from + t.count ≤ arc_count l.self.words.now) (vec_items l.states);
}
