use Rattle.std.proofs.Common.{◌≡◌, ℕ, ◌+◌, ◌*◌, ◌<◌, ◌≤◌, [], ◌∷◌, map, length, take, drop, vec_items, sym, ap, ◌∙◌, subst, ⊎_elim, arith, rules as found}
use Rattle.std.specs.Iterator.Adapters.{zip_first, zip_second}
use Rattle.std.specs.Slice.Iter.{chunks_rest}
use Rattle.std.proofs.lemmas.List.{length-append}
use Rattle.std.specs.List.{All}
use Rattle.plant.proofs.Pushed.{one_more}
use Rattle.guarded.specs.declared.Rule.{Rule}
use Rattle.guarded.specs.Made.{needs_in, sets_in}
use Rattle.rule.specs.Words.{variables, rules, needs, sets, all_needs, all_sets}
use Rattle.rule.specs.Read.{value_in}
use Rattle.rule.proofs.Rows.{chunk_turn, chunk_end, all_gone, turn_within, turn_row, turn_left, long_needs, long_sets, needs_row, sets_row, row_bytes, long_row}
use Rattle.rule.proofs.sections.Sections.rules.Goals as goal

pub values-requires : goal.values-requires
values-requires c =
    let t = c.args.self.now in
    let ws = t.words.now in
    let inv = c.loop-needs.invariant in
    let turn = chunk_turn c.loop-needs.needs-iterator c.next.new.self c.next.result (c.in-Some.needs, c.in-Some.sets) c.in-Some.is c.next.ensures.steps in
    let n = length (vec_items c.loop-needs.rules) in
    let within = turn_within (all_needs ws) (zip_first c.loop-needs.needs-iterator) (zip_first c.next.new.self) c.in-Some.needs (rules ws) (variables ws) n turn.0 inv.needs_size inv.needs_left (long_needs ws t.shaped) in
    let row = turn_row (all_needs ws) (zip_first c.loop-needs.needs-iterator) (zip_first c.next.new.self) c.in-Some.needs (rules ws) (variables ws) n turn.0 inv.needs_size inv.needs_left (long_needs ws t.shaped) ∙ needs_row ws t.shaped n within in
    record {
      small = subst (All (λ word. word ≤ 255)) (sym row) (row_bytes ws t.shaped c.requires n (omega arith));
      few = omega (arith, ap length row, long_row ws t.shaped n (omega arith), t.shaped.few_variables);
    }

pub values-requires-in-loop-needs : goal.values-requires-in-loop-needs
values-requires-in-loop-needs c =
    let t = c.args.self.now in
    let ws = t.words.now in
    let inv = c.loop-needs.invariant in
    let turn = chunk_turn c.loop-needs.needs-iterator c.next.new.self c.next.result (c.in-Some.needs, c.in-Some.sets) c.in-Some.is c.next.ensures.steps in
    let n = length (vec_items c.loop-needs.rules) in
    let within = turn_within (all_sets ws) (zip_second c.loop-needs.needs-iterator) (zip_second c.next.new.self) c.in-Some.sets (rules ws) (variables ws) n turn.1 inv.sets_size inv.sets_left (long_sets ws t.shaped) in
    let row = turn_row (all_sets ws) (zip_second c.loop-needs.needs-iterator) (zip_second c.next.new.self) c.in-Some.sets (rules ws) (variables ws) n turn.1 inv.sets_size inv.sets_left (long_sets ws t.shaped) ∙ sets_row ws t.shaped n within in
    record {
      small = subst (All (λ word. word ≤ 255)) (sym row) (row_bytes ws t.shaped c.requires (rules ws + n) (omega arith));
      few = omega (arith, ap length row, long_row ws t.shaped (rules ws + n) (omega arith), t.shaped.few_variables);
    }

pub loop-needs-preserved : goal.loop-needs-preserved
loop-needs-preserved c =
    let t = c.args.self.now in
    let ws = t.words.now in
    let inv = c.loop-needs.invariant in
    let turn = chunk_turn c.loop-needs.needs-iterator c.next.new.self c.next.result (c.in-Some.needs, c.in-Some.sets) c.in-Some.is c.next.ensures.steps in
    let before = vec_items c.loop-needs.rules in
    let after = vec_items c.push.new.self in
    let n = length before in
    let within = turn_within (all_needs ws) (zip_first c.loop-needs.needs-iterator) (zip_first c.next.new.self) c.in-Some.needs (rules ws) (variables ws) n turn.0 inv.needs_size inv.needs_left (long_needs ws t.shaped) in
    let need_row = turn_row (all_needs ws) (zip_first c.loop-needs.needs-iterator) (zip_first c.next.new.self) c.in-Some.needs (rules ws) (variables ws) n turn.0 inv.needs_size inv.needs_left (long_needs ws t.shaped) ∙ needs_row ws t.shaped n within in
    let set_row = turn_row (all_sets ws) (zip_second c.loop-needs.needs-iterator) (zip_second c.next.new.self) c.in-Some.sets (rules ws) (variables ws) n turn.1 inv.sets_size inv.sets_left (long_sets ws t.shaped) ∙ sets_row ws t.shaped n within in
    let need_long : length c.in-Some.needs.now ≡ variables ws = ap length need_row ∙ long_row ws t.shaped n (omega arith) in
    let set_long : length c.in-Some.sets.now ≡ variables ws = ap length set_row ∙ long_row ws t.shaped (rules ws + n) (omega arith) in
    let rule : Rule = record { needs = c.values.result; sets = c.values-in-loop-needs.result } in
    let pushed = c.in_ok-push.ensures.items in
    let long : n + 1 ≡ length after = omega (arith, ap length pushed, length-append before (rule ∷ [])) in
    let needs_size = turn.0.0 ∙ inv.needs_size in
    let sets_size = turn.1.0 ∙ inv.sets_size in
    record {
      can = (omega (arith, needs_size, t.shaped.some_variables), omega (arith, sets_size, t.shaped.some_variables));
      finite = search found;
      needs_size = needs_size;
      sets_size = sets_size;
      needs_left = turn_left (all_needs ws) (zip_first c.loop-needs.needs-iterator) (zip_first c.next.new.self) c.in-Some.needs (rules ws) (variables ws) n turn.0 inv.needs_size inv.needs_left (long_needs ws t.shaped) ∙ ap (λ k. drop (k * variables ws) (all_needs ws)) long;
      sets_left = turn_left (all_sets ws) (zip_second c.loop-needs.needs-iterator) (zip_second c.next.new.self) c.in-Some.sets (rules ws) (variables ws) n turn.1 inv.sets_size inv.sets_left (long_sets ws t.shaped) ∙ ap (λ k. drop (k * variables ws) (all_sets ws)) long;
      few = omega (arith, long, within);
      by_needs =
          subst (λ xs. (r : ℕ) → r < length xs → needs_in (variables ws) xs r ≡ map value_in (needs ws r)) (sym pushed)
          (one_more (λ (x : Rule). take (variables ws) x.needs) [] (λ r. map value_in (needs ws r)) before rule inv.by_needs (ap (λ n. take n c.values.result) (sym need_long) ∙ c.values.ensures ∙ ap (map value_in) need_row));
      by_sets =
          subst (λ xs. (r : ℕ) → r < length xs → sets_in (variables ws) xs r ≡ map value_in (sets ws r)) (sym pushed)
          (one_more (λ (x : Rule). take (variables ws) x.sets) [] (λ r. map value_in (sets ws r)) before rule inv.by_sets (ap (λ n. take n c.values-in-loop-needs.result) (sym set_long) ∙ c.values-in-loop-needs.ensures ∙ ap (map value_in) set_row));
    }

pub returns : goal.returns
returns c =
    let t = c.args.self.now in
    let ws = t.words.now in
    let inv = c.loop-needs.invariant in
    let n = length (vec_items c.loop-needs.rules) in
    let all : rules ws ≤ n =
    ⊎_elim
    (λ e. all_gone (all_needs ws) (chunks_rest (zip_first c.loop-needs.needs-iterator)) (rules ws) (variables ws) n t.shaped.some_variables inv.needs_left (long_needs ws t.shaped) e)
    (λ e. all_gone (all_sets ws) (chunks_rest (zip_second c.loop-needs.needs-iterator)) (rules ws) (variables ws) n t.shaped.some_variables inv.sets_left (long_sets ws t.shaped) e)
    (chunk_end c.loop-needs.needs-iterator c.next.new.self c.next.result c.in-None.is c.next.ensures.steps) in
    record {
      many = omega (arith, inv.few, all);
      by_needs = λ r l. inv.by_needs r (omega (arith, all));
      by_sets = λ r l. inv.by_sets r (omega (arith, all));
    }
