-- Words that no row refuses: the parts read of them are within their bounds, and make the model that they mean. Relies on Tied and Spots.
use Rattle.std.proofs.Common.{◌≡◌, ℕ, ◌+◌, ◌*◌, ◌/◌, ◌%◌, ◌^◌, ◌<◌, ◌≤◌, cond, not, eqb, ltb, List, [], ◌∷◌, map, vec_items, length, get_or, drop, Some, None, Decides, sym, refl, ap, ◌∙◌, subst, ⊎_elim, add-mul, arith}
use Rattle.std.specs.List.{range_with_len, flat_map}
use Rattle.std.proofs.lemmas.List.{length-take-le, length-drop, length-map, get_or-map, get_or-take, get_or-drop}
use Rattle.std.proofs.lemmas.Bool.{cases_lt, cases_Bool, cond-true, cond-false, eqb-false, lt-ltb}
use Rattle.refusal.specs.Rows.{Clear, First}
use Rattle.refusal.specs.declared.Refusal.{Refusal}
use Rattle.refusal.proofs.Settled.{one_refusal, not_both, one_lowest, one_fails}
use Rattle.guarded.specs.declared.Parts.{Parts}
use Rattle.guarded.specs.Values.{extent_of, values_of, number_of, facts_of, meets, after, Sized}
use Rattle.guarded.specs.Made.{sizes_of, width_of, rule_count, needs_in, sets_in, needs_of, sets_of, target_of, arc_by, arcs_by, model_of, Few, Filled, InRange}
use Rattle.guarded.proofs.Numbering.{Below, values_below, number_below, number_values, values_number, facts_decide}
use Rattle.guarded.proofs.Laws.{lawful}
use Rattle.rule.specs.Words.{variables, rules, sizes, row, needs, sets, Shaped, Foreign, rows}
use Rattle.rule.specs.Meaning.{product, number, Values, met, changed, arc_of, arcs_at, Means}
use Rattle.rule.specs.Read.{Reads, Granted, value_in}
use Rattle.rule.proofs.Picks.{row_within, arcs_at_state}
use Rattle.rule.proofs.Rows.{long_row}
use Rattle.rule.proofs.Tied.{product_is, number_is, meets_is, after_is, joined_same}

-- a word that names a value is that value, and not 255
named : (w v : ℕ) → value_in w ≡ Some v → (w ≡ v) × (w ≡ 255 → ⊥)
named w v e =
    ⊎_elim
    (λ t. let none : value_in w ≡ None = cond-true (eqb w 255) None (Some w) t in let z : ◌≡◌ {A = ℕ} 0 1 = cc in absurd (omega arith))
    (λ f. let some : value_in w ≡ Some w = cond-false (eqb w 255) None (Some w) f in (cc, eqb-false w 255 f))
    (cases_Bool (eqb w 255))

module _ (ws : List ℕ) (p : Parts) (shaped : Shaped ws) (reads : Reads ws p) where
  length_sizes : length (sizes ws) ≡ variables ws
  length_sizes = length-take-le (variables ws) (drop 2 ws) (omega (arith, length-drop 2 ws, shaped.long))

  width_is : width_of p ≡ variables ws
  width_is = ap length reads.by_sizes ∙ length_sizes

  many : rule_count p ≡ rules ws
  many = reads.ruled.many

  needs_are : (r : ℕ) → r < rules ws → needs_of p r ≡ map value_in (needs ws r)
  needs_are r l = ap (λ n. needs_in n (vec_items p.rules) r) width_is ∙ reads.ruled.by_needs r l

  sets_are : (r : ℕ) → r < rules ws → sets_of p r ≡ map value_in (sets ws r)
  sets_are r l = ap (λ n. sets_in n (vec_items p.rules) r) width_is ∙ reads.ruled.by_sets r l

  sized : Sized (sizes_of p)
  sized = subst Sized (sym reads.by_sizes) (λ j l. (shaped.some_values j (omega (arith, length_sizes)), shaped.few_values j (omega (arith, length_sizes))))

  pub few : Few p
  few = (
    omega (arith, width_is, shaped.few_variables),
    sized,
    omega (arith, many, shaped.some_rules),
    omega (arith, many, shaped.few_rules),
  )

  pub filled : Filled p
  filled r l = (
    ap length (needs_are r (omega (arith, many))) ∙ length-map (needs ws r) value_in ∙ long_row ws shaped r (omega (arith, many)) ∙ sym width_is,
    ap length (sets_are r (omega (arith, many))) ∙ length-map (sets ws r) value_in ∙ long_row ws shaped (rules ws + r) (omega (arith, many)) ∙ sym width_is,
  )

  pub ranged : ((i : ℕ) → Foreign ws i → ⊥) → InRange p
  ranged native r j v h =
      let at : ℕ = 2 + variables ws + (rules ws + r) * variables ws in
      let within : at + variables ws ≤ length ws =
      omega (arith, shaped.long, add-mul (rules ws) r (variables ws), row_within r (rules ws) (variables ws) (omega (arith, h.0, many))) in
      let narrow : j < variables ws = omega (arith, h.1, width_is) in
      let long : length (sets ws r) ≡ variables ws = length-take-le (variables ws) (drop at ws) (omega (arith, length-drop at ws)) in
      let word : get_or (sets ws r) j 0 ≡ get_or ws (at + j) 0 = get_or-take (variables ws) (drop at ws) j 0 narrow ∙ get_or-drop at ws j 0 in
      let read : get_or (sets_of p r) j None ≡ value_in (get_or (sets ws r) j 0) =
      ap (λ os. get_or os j None) (sets_are r (omega (arith, h.0, many))) ∙ get_or-map value_in (sets ws r) j 0 None (omega arith) in
      let is = named (get_or ws (at + j) 0) v (sym (ap value_in word) ∙ sym read ∙ h.2) in
      ⊎_elim
      (λ lt. lt)
      (λ le. absurd (native (at + j)
      (record {
        at_row = rules ws + r;
        at_variable = j;
        row_within = omega (arith, h.0, many);
        variable_within = narrow;
        place = omega arith;
        not_any = is.1;
        too_high = omega (arith, ap (λ ns. get_or ns j 0) reads.by_sizes, is.0);
      })))
      (cases_lt v (get_or (sizes_of p) j 0))

  -- the values of a state, and its number
  values_fit : (vs : List ℕ) → Values (sizes ws) vs → Below (sizes_of p) vs
  values_fit vs h = subst (λ ns. Below ns vs) (sym reads.by_sizes) h

  number_agrees : (vs : List ℕ) → number (sizes ws) vs ≡ number_of (sizes_of p) vs
  number_agrees vs = number_is (sizes ws) vs ∙ ap (λ ns. number_of ns vs) (sym reads.by_sizes)

  number_inside : (vs : List ℕ) → Values (sizes ws) vs → number (sizes ws) vs < extent_of (sizes_of p)
  number_inside vs h = omega (arith, number_agrees vs, number_below (sizes_of p) vs (values_fit vs h))

  values_back : (vs : List ℕ) → Values (sizes ws) vs → values_of (sizes_of p) (number (sizes ws) vs) ≡ vs
  values_back vs h = ap (values_of (sizes_of p)) (number_agrees vs) ∙ values_number (sizes_of p) vs (values_fit vs h)

  facts_at : (vs : List ℕ) → Values (sizes ws) vs → (model_of p).system.facts (number (sizes ws) vs) ≡ facts_of vs
  facts_at vs h =
      cond-true (ltb (number (sizes ws) vs) (extent_of (sizes_of p))) (facts_of (values_of (sizes_of p) (number (sizes ws) vs))) 0
      (lt-ltb (number (sizes ws) vs) (extent_of (sizes_of p)) (number_inside vs h))
      ∙ ap facts_of (values_back vs h)

  arc_same : (vs : List ℕ) (r : ℕ) → r < rule_count p → arc_by p vs r ≡ arc_of ws vs r
  arc_same vs r l =
      let enabled : meets (needs_of p r) vs ≡ met (needs ws r) vs = ap (λ os. meets os vs) (needs_are r (omega (arith, many))) ∙ meets_is (needs ws r) vs in
      let leads : target_of p vs r ≡ number (sizes ws) (changed (sets ws r) vs) =
      sym (number_agrees (after (sets_of p r) vs)) ∙ ap (number (sizes ws)) (ap (λ os. after os vs) (sets_are r (omega (arith, many))) ∙ after_is (sets ws r) vs) in
      λ i. cond (enabled i) (record { event = r; target = leads i } ∷ []) []

  arcs_of : (vs : List ℕ) → Values (sizes ws) vs → (model_of p).system.arcs (number (sizes ws) vs) ≡ arcs_at ws vs
  arcs_of vs h =
      arcs_at_state p (number (sizes ws) vs) (number_inside vs h)
      ∙ ap (λ us. arcs_by p us (rule_count p)) (values_back vs h)
      ∙ joined_same (arc_by p vs) (arc_of ws vs) (rule_count p) 0 (λ r l. arc_same vs r (omega arith))
      ∙ ap (λ n. flat_map (arc_of ws vs) (range_with_len 0 n)) many

  pub means : Means ws (model_of p)
  means =
      record {
        events = many;
        extent = product_is (sizes_of p) ∙ ap product reads.by_sizes;
        width = many;
        initial = refl;
        numbered =
            λ s l. (
              values_of (sizes_of p) s,
              subst (λ ns. Below ns (values_of (sizes_of p) s)) reads.by_sizes (values_below (sizes_of p) s sized),
              number_agrees (values_of (sizes_of p) s) ∙ number_values (sizes_of p) s sized l,
            );
        once = λ us vs hu hv e. sym (values_back us hu) ∙ ap (values_of (sizes_of p)) e ∙ values_back vs hv;
        facts = λ vs h j. subst (λ n. Decides (not (eqb (get_or vs j 0) 0)) ((n / 2 ^ j) % 2 ≡ 1)) (sym (facts_at vs h)) (facts_decide vs j);
        arcs = arcs_of;
      }

-- no row refuses words that are shaped and have no foreign word
pub clear : (ws : List ℕ) → Shaped ws → ((i : ℕ) → Foreign ws i → ⊥) → Clear (rows ws)
clear ws shaped native = ((λ i f. f.0 shaped), ((λ i l. native i l.here), tt))

pub granted : (ws : List ℕ) (p : Parts) → Shaped ws → ((i : ℕ) → Foreign ws i → ⊥) → Reads ws p → Granted ws (model_of p)
granted ws p shaped native reads =
    record {
      clear = clear ws shaped native;
      means = means ws p shaped reads;
      lawful = lawful p (few ws p shaped reads) (ranged ws p shaped reads native);
    }

-- a refusal by a row is the only one, and there is none where the words are clear
pub one : (ws : List ℕ) (d e : Refusal) → First (rows ws) d → First (rows ws) e → d ≡ e
one ws d e h k = one_refusal (rows ws) (one_fails, (one_lowest, tt)) d e h k

pub not_refused : (ws : List ℕ) → Clear (rows ws) → (e : Refusal) → First (rows ws) e → ⊥
not_refused ws c e f = not_both (rows ws) e c f
