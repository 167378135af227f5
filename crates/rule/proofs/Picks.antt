-- Which of a state's arcs is which rule's. Relies on guarded's lists of arcs.
use Rattle.std.proofs.Common.{◌≡◌, ℕ, ◌+◌, ◌*◌, ◌<◌, ◌≤◌, ltb, List, [], map, Some, None, Option, get_or, slice_get, unwrap_or, sym, refl, ap, ◌∙◌, mul-le-mul_right, arith}
use Rattle.std.specs.List.{range_with_len, filter}
use Rattle.std.specs.Option.{option_map, option_map_or}
use Rattle.std.proofs.lemmas.Option.{slice_get-map, unwrap_or-slice_get}
use Rattle.std.proofs.lemmas.Bool.{cond-true, lt-ltb}
use Rattle.meaning.specs.declared.Arc.{Arc}
use Rattle.guarded.specs.declared.Parts.{Parts}
use Rattle.guarded.specs.Values.{extent_of, values_of, meets}
use Rattle.guarded.specs.Made.{sizes_of, rule_count, needs_of, target_of, arcs_by, model_of}
use Rattle.guarded.proofs.Listed.{joined_kept}

-- a row within the rows
pub row_within : (r n w : ℕ) → r < n → r * w + w ≤ n * w
row_within r n w l = omega (arith, mul-le-mul_right {m = r + 1} {n = n} w (omega arith))

-- below the extent, a state's arcs are those by the rules
pub arcs_at_state : (p : Parts) (s : ℕ) → s < extent_of (sizes_of p) → (model_of p).system.arcs s ≡ arcs_by p (values_of (sizes_of p) s) (rule_count p)
arcs_at_state p s l =
    cond-true (ltb s (extent_of (sizes_of p))) (arcs_by p (values_of (sizes_of p) s) (rule_count p)) [] (lt-ltb s (extent_of (sizes_of p)) l)

-- the rules whose needs are met, and the arc of each
abbrev pub met_rules : Parts → List ℕ → List ℕ
met_rules p vs = filter (λ r. meets (needs_of p r) vs) (range_with_len 0 (rule_count p))

abbrev pub arc_of_rule : Parts → List ℕ → ℕ → Arc
arc_of_rule p vs r = record { event = r; target = target_of p vs r }

pub arcs_listed : (p : Parts) (s : ℕ) → s < extent_of (sizes_of p) → (model_of p).system.arcs s ≡ map (arc_of_rule p (values_of (sizes_of p) s)) (met_rules p (values_of (sizes_of p) s))
arcs_listed p s l =
    let vs = values_of (sizes_of p) s in
    arcs_at_state p s l ∙ joined_kept (λ r. meets (needs_of p r) vs) (arc_of_rule p vs) (range_with_len 0 (rule_count p))

-- the arc at an index is that of the rule there
pub arc_picked : (p : Parts) (s i : ℕ) (d : Arc) (r : Option ℕ) → s < extent_of (sizes_of p) → r ≡ slice_get (met_rules p (values_of (sizes_of p) s)) i
    → option_map_or (arc_of_rule p (values_of (sizes_of p) s)) r d ≡ get_or ((model_of p).system.arcs s) i d
arc_picked p s i d r l is =
    let vs = values_of (sizes_of p) s in
    ap (λ o. option_map_or (arc_of_rule p vs) o d) is
    ∙ picked (slice_get (met_rules p vs) i)
    ∙ ap (λ o. unwrap_or o d) (sym (slice_get-map (arc_of_rule p vs) (met_rules p vs) i))
    ∙ unwrap_or-slice_get (map (arc_of_rule p vs) (met_rules p vs)) i d
    ∙ sym (ap (λ xs. get_or xs i d) (arcs_listed p s l))
  where
    picked : (o : Option ℕ) → option_map_or (arc_of_rule p (values_of (sizes_of p) s)) o d ≡ unwrap_or (option_map (arc_of_rule p (values_of (sizes_of p) s)) o) d
    picked None = refl
    picked (Some x) = refl
