-- The model of parts that keep their bounds is lawful. Relies on Numbering and Listed.
use Rattle.std.proofs.Common.{ℕ, zero, suc, ◌^◌, ◌<◌, ◌≤◌, ltb, List, [], ◌∷◌, length, get_or, ap, arith, pow_mono}
use Rattle.std.proofs.lemmas.Bool.{cond_both, cond-false, le-ltb}
use Rattle.meaning.specs.declared.Arc.{Arc}
use Rattle.meaning.specs.Systems.{no_arc}
use Rattle.plant.specs.Model.{Lawful, Limits, Begins, Branches, Leads, Ends, Distinct}
use Rattle.guarded.specs.declared.Parts.{Parts}
use Rattle.guarded.specs.Values.{extent_of, values_of, facts_of, meets, after}
use Rattle.guarded.specs.Made.{sizes_of, rule_count, needs_of, sets_of, target_of, arcs_by, model_of, Few, InRange}
use Rattle.guarded.proofs.Numbering.{length_values, values_below, number_below, after_below, extent_some, extent_few, facts_few}
use Rattle.std.proofs.lemmas.List.Elements.{All-from_recursion}
use Rattle.guarded.proofs.Listed.{arcs_distinct, arcs_few, arcs_all}

module _ (p : Parts) (few : Few p) (ranged : InRange p) where
  extent_fits : extent_of (sizes_of p) ≤ 2 ^ 32
  extent_fits = extent_few (sizes_of p) 8 few.1 few.0

  limits : Limits (model_of p)
  limits = (few.2, omega (arith, few.3), extent_some (sizes_of p) few.1, extent_fits, few.3)

  begins : Begins (model_of p)
  begins = (
    omega arith,
    (λ i j e. omega (arith, e.0, e.1)),
    (λ i l. initial_below i l),
  )
    where
      initial_below : (i : ℕ) → i < 1 → get_or (0 ∷ []) i 0 < extent_of (sizes_of p)
      initial_below zero l = extent_some (sizes_of p) few.1
      initial_below (suc i) l = absurd (omega arith)

  -- where the target of a rule lies
  target_below : (s r : ℕ) → r < rule_count p → target_of p (values_of (sizes_of p) s) r < extent_of (sizes_of p)
  target_below s r l =
      number_below (sizes_of p) (after (sets_of p r) (values_of (sizes_of p) s))
      (after_below (sizes_of p) (values_of (sizes_of p) s) (sets_of p r) (values_below (sizes_of p) s few.1) (λ j v h. ranged r j v (l, h.0, h.1)))

  -- what holds of the arcs by the rules and of no arcs holds of the arcs of a state
  at_state : (s : ℕ) (P : List Arc → Type 0) → P (arcs_by p (values_of (sizes_of p) s) (rule_count p)) → P [] → P ((model_of p).system.arcs s)
  at_state s P some none =
      cond_both (ltb s (extent_of (sizes_of p))) (arcs_by p (values_of (sizes_of p) s) (rule_count p)) [] P (λ _. some) (λ _. none)

  each_arc : (s : ℕ) (P : Arc → Type 0)
      → ((r : ℕ) → r < rule_count p → P (record { event = r; target = target_of p (values_of (sizes_of p) s) r }))
      → (i : ℕ) → i < length ((model_of p).system.arcs s) → P (get_or ((model_of p).system.arcs s) i no_arc)
  each_arc s P h =
      at_state s (λ xs. (i : ℕ) → i < length xs → P (get_or xs i no_arc))
      (λ i l. All-from_recursion P (arcs_by p (values_of (sizes_of p) s) (rule_count p))
      (arcs_all (λ r. meets (needs_of p r) (values_of (sizes_of p) s)) (target_of p (values_of (sizes_of p) s)) P (rule_count p) 0 (λ r m. h r (omega arith))) i no_arc l)
      (λ i l. absurd (omega arith))

  branches : Branches (model_of p)
  branches = (
    (λ s. at_state s (λ xs. length xs ≤ rule_count p)
        (arcs_few (λ r. meets (needs_of p r) (values_of (sizes_of p) s)) (target_of p (values_of (sizes_of p) s)) (rule_count p) 0) (omega arith)),
    (λ s. at_state s Distinct
        (arcs_distinct (λ r. meets (needs_of p r) (values_of (sizes_of p) s)) (target_of p (values_of (sizes_of p) s)) (rule_count p))
        (λ i j e. omega (arith, e.1))),
  )

  leads : Leads (model_of p)
  leads = (
    (λ s. each_arc s (λ x. x.event < rule_count p) (λ r l. l)),
    (λ s. each_arc s (λ x. x.target < extent_of (sizes_of p)) (λ r l. target_below s r l)),
  )

  ends : Ends (model_of p)
  ends = (
    (λ s. cond_both (ltb s (extent_of (sizes_of p))) (facts_of (values_of (sizes_of p) s)) 0 (λ n. n < 2 ^ 32)
        (λ _. facts_fit s) (λ _. omega arith)),
    (λ s l. cond-false (ltb s (extent_of (sizes_of p))) (facts_of (values_of (sizes_of p) s)) 0 (le-ltb s (extent_of (sizes_of p)) l)),
    (λ s l. ap length (cond-false (ltb s (extent_of (sizes_of p))) (arcs_by p (values_of (sizes_of p) s) (rule_count p)) [] (le-ltb s (extent_of (sizes_of p)) l))),
  )
    where
      facts_fit : (s : ℕ) → facts_of (values_of (sizes_of p) s) < 2 ^ 32
      facts_fit s =
          let short : length (values_of (sizes_of p) s) ≤ 32 = omega (arith, length_values (sizes_of p) s, few.0) in
          omega (arith, facts_few (values_of (sizes_of p) s), pow_mono short)

  pub lawful : Lawful (model_of p)
  lawful = record { limits = limits; begins = begins; branches = branches; leads = leads; ends = ends }
