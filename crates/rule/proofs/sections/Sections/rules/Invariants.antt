use Rattle.std.proofs.Common.{◌≡◌, ℕ, ◌*◌, ◌<◌, ◌≤◌, length, map, drop, vec_items}
use Rattle.std.specs.Iterator.Adapters.{zip_first, zip_second}
use Rattle.std.specs.Slice.Iter.{chunks_rest, chunks_size}
use Rattle.guarded.specs.Made.{needs_in, sets_in}
use Rattle.rule.specs.Words.{variables, rules, needs, sets, all_needs, all_sets}
use Rattle.rule.specs.Read.{value_in}
use Rattle.rule.proofs.sections.Sections.rules.Given as goal

abbrev pub invariant-loop-needs : goal.invariant-loop-needs
invariant-loop-needs l = record {
  can : (goal.iterator-loop-needs).can_next l.needs-iterator;
  finite : (goal.iterator-loop-needs).is_finite l.needs-iterator;
  needs_size : chunks_size (zip_first l.needs-iterator) ≡ variables l.self.words.now;
  sets_size : chunks_size (zip_second l.needs-iterator) ≡ variables l.self.words.now;
  needs_left : chunks_rest (zip_first l.needs-iterator) ≡ drop (length (vec_items l.rules) * variables l.self.words.now) (all_needs l.self.words.now);
  sets_left : chunks_rest (zip_second l.needs-iterator) ≡ drop (length (vec_items l.rules) * variables l.self.words.now) (all_sets l.self.words.now);
  few : length (vec_items l.rules) ≤ rules l.self.words.now;
  by_needs : (r : ℕ) → r < length (vec_items l.rules) → needs_in (variables l.self.words.now) (vec_items l.rules) r ≡ map value_in (needs l.self.words.now r);
  by_sets : (r : ℕ) → r < length (vec_items l.rules) → sets_in (variables l.self.words.now) (vec_items l.rules) r ≡ map value_in (sets l.self.words.now r);
}
