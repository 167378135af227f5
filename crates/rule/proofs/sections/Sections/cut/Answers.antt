use Rattle.std.proofs.Common.{◌≡◌, ℕ, ◌-◌, ◌+◌, ◌*◌, ◌≤◌, List, length, get_or, take, drop, sym, refl, ap, ◌∙◌, arith, rules, tests}
use Rattle.std.proofs.lemmas.List.{take_rest, take_all, length-drop, drop-drop}
use Rattle.rule.specs.Words.{variables, rules as rules_in}
use Rattle.rule.proofs.sections.Sections.cut.Goals as goal

-- what is left behind the sizes
rows : (ws left : List ℕ) → left ≡ drop (variables ws) (take (length ws - 2) (drop 2 ws)) → left ≡ drop (2 + variables ws) ws
rows ws left is = is ∙ ap (drop (variables ws)) (take_rest ws 2) ∙ drop-drop (variables ws) 2 ws

pub invariant_of-result-clause-by_needs : goal.invariant_of-result-clause-by_needs
invariant_of-result-clause-by_needs c = c.split_at-2.ensures.front ∙ ap (take (rules_in c.args.words.now * variables c.args.words.now)) (rows c.args.words.now c.split_at.result.1.now c.split_at.ensures.back)

pub invariant_of-result-clause-by_sets : goal.invariant_of-result-clause-by_sets
invariant_of-result-clause-by_sets c =
    let ws = c.args.words.now in
    let count = rules_in ws * variables ws in
    c.split_at-2.ensures.back ∙ ap (drop count) (rows c.args.words.now c.split_at.result.1.now c.split_at.ensures.back) ∙ drop-drop count (2 + variables ws) ws
    ∙ sym (take_all count (drop (2 + variables ws + count) ws) (omega (arith, length-drop (2 + variables ws + count) ws, length-drop 2 ws, c.if-rest-variables.false)))

pub invariant_of-result-clause-shaped : goal.invariant_of-result-clause-shaped
invariant_of-result-clause-shaped c =
    let ws = c.args.words.now in
    let few : (1 ≤ variables ws) × (variables ws ≤ 8) = search (rules, tests) in
    let few_rules : (1 ≤ rules_in ws) × (rules_in ws ≤ 16) = search (rules, tests) in
    let each = c.if-not-sized.ensures.0 refl in
    let by_sizes = c.split_at.ensures.front ∙ ap (take (variables ws)) (take_rest ws 2) in
    record {
      some_variables = few.0;
      few_variables = few.1;
      some_rules = few_rules.0;
      few_rules = few_rules.1;
      long = omega (arith, length-drop 2 ws, ap length (take_rest ws 2), c.if-rest-variables.false, c.in-len2-up.len_at_least);
      some_values = λ j l. omega (arith, ap (λ ns. get_or ns j 0) by_sizes, (each j (omega (arith, c.split_at.ensures.front_len))).0);
      few_values = λ j l. omega (arith, ap (λ ns. get_or ns j 0) by_sizes, (each j (omega (arith, c.split_at.ensures.front_len))).1);
    }
