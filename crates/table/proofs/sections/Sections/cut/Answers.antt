use Rattle.std.proofs.Common.{◌≡◌, sym, ap, ◌∙◌, take, drop, arith}
use Rattle.std.proofs.lemmas.List.{take_rest, take_all, length-drop, drop-drop}
use Rattle.table.specs.Words.{state_count, initial_count, arc_count, at_facts, at_counts, at_events, at_targets}
use Rattle.table.proofs.sections.Sections.cut.Goals as goal

-- what is left behind each array, and the array before it
arrays : (c : goal.After-targets-1) → c.split_at.result.1.now ≡ drop (at_facts c.args.words.now) c.args.words.now
arrays c = c.split_at.ensures.back ∙ ap (drop (initial_count c.args.words.now)) (take_rest c.args.words.now 4) ∙ drop-drop (initial_count c.args.words.now) 4 c.args.words.now

counts : (c : goal.After-targets-1) → c.split_at-2.result.1.now ≡ drop (at_counts c.args.words.now) c.args.words.now
counts c = c.split_at-2.ensures.back ∙ ap (drop (state_count c.args.words.now)) (arrays c) ∙ drop-drop (state_count c.args.words.now) (at_facts c.args.words.now) c.args.words.now

events : (c : goal.After-targets-1) → c.split_at-3.result.1.now ≡ drop (at_events c.args.words.now) c.args.words.now
events c = c.split_at-3.ensures.back ∙ ap (drop (state_count c.args.words.now)) (counts c) ∙ drop-drop (state_count c.args.words.now) (at_counts c.args.words.now) c.args.words.now

targets : (c : goal.After-targets-1) → c.split_at-4.result.1.now ≡ drop (at_targets c.args.words.now) c.args.words.now
targets c = c.split_at-4.ensures.back ∙ ap (drop (arc_count c.args.words.now)) (events c) ∙ drop-drop (arc_count c.args.words.now) (at_events c.args.words.now) c.args.words.now

pub invariant_of-result-clause-by_facts : goal.invariant_of-result-clause-by_facts
invariant_of-result-clause-by_facts c = c.split_at-2.ensures.front ∙ ap (take (state_count c.args.words.now)) (arrays c)

pub invariant_of-result-clause-by_counts : goal.invariant_of-result-clause-by_counts
invariant_of-result-clause-by_counts c = c.split_at-3.ensures.front ∙ ap (take (state_count c.args.words.now)) (counts c)

pub invariant_of-result-clause-by_events : goal.invariant_of-result-clause-by_events
invariant_of-result-clause-by_events c = c.split_at-4.ensures.front ∙ ap (take (arc_count c.args.words.now)) (events c)

pub invariant_of-result-clause-by_targets : goal.invariant_of-result-clause-by_targets
invariant_of-result-clause-by_targets c = targets c ∙ sym (take_all (arc_count c.args.words.now) (drop (at_targets c.args.words.now) c.args.words.now) (omega (arith, length-drop (at_targets c.args.words.now) c.args.words.now, length-drop 4 c.args.words.now, c.if-arrays-initial.false)))
