-- The model that the parts of a rule plant make, and what is asked of the parts. Relies on Values and plant's models.
use Rattle.std.specs.Prelude.{◌≡◌, ℕ, ◌<◌, ◌≤◌, cond, List, [], ◌∷◌, length, take, Some, None, vec_items, Option, nat_lt, slice_get, slice_index, slice_index_or}
use Rattle.std.specs.Option.{option_map_or}
use Rattle.std.specs.List.{range_with_len, flat_map}
use Rattle.meaning.specs.declared.Arc.{Arc}
use Rattle.plant.specs.Model.{Model}
use Rattle.guarded.specs.declared.Parts.{Parts}
use Rattle.guarded.specs.declared.Rule.{Rule}
use Rattle.guarded.specs.Values.{extent_of, values_of, number_of, facts_of, meets, after, Sized}

abbrev pub sizes_of : Parts → List ℕ
sizes_of p = vec_items p.sizes

-- how many variables
abbrev pub width_of : Parts → ℕ
width_of p = length (sizes_of p)

-- how many rules
abbrev pub rule_count : Parts → ℕ
rule_count p = length (vec_items p.rules)

-- what rule r needs of the first n variables, and what it sets: nothing past the last rule
abbrev pub needs_in : ℕ → List Rule → ℕ → List (Option ℕ)
needs_in n all r = option_map_or (λ (rule : Rule). take n rule.needs) (slice_get all r) []

abbrev pub sets_in : ℕ → List Rule → ℕ → List (Option ℕ)
sets_in n all r = option_map_or (λ (rule : Rule). take n rule.sets) (slice_get all r) []

abbrev pub needs_of : Parts → ℕ → List (Option ℕ)
needs_of p r = needs_in (width_of p) (vec_items p.rules) r

abbrev pub sets_of : Parts → ℕ → List (Option ℕ)
sets_of p r = sets_in (width_of p) (vec_items p.rules) r

-- the state that rule r leads to from the values vs
abbrev pub target_of : Parts → List ℕ → ℕ → ℕ
target_of p vs r = number_of (sizes_of p) (after (sets_of p r) vs)

-- the arc of rule r, where its needs are met
abbrev pub arc_by : Parts → List ℕ → ℕ → List Arc
arc_by p vs r = cond (meets (needs_of p r) vs) (record { event = r; target = target_of p vs r } ∷ []) []

-- the arcs of the first n rules
abbrev pub arcs_by : Parts → List ℕ → ℕ → List Arc
arcs_by p vs n = flat_map (arc_by p vs) (range_with_len 0 n)

abbrev pub model_of : Parts → Model
model_of p =
    record {
      events = rule_count p;
      extent = extent_of (sizes_of p);
      width = rule_count p;
      system =
          record {
            facts = λ s. cond (nat_lt s (extent_of (sizes_of p))) (facts_of (values_of (sizes_of p) s)) 0;
            arcs = λ s. cond (nat_lt s (extent_of (sizes_of p))) (arcs_by p (values_of (sizes_of p) s) (rule_count p)) [];
            initial = 0 ∷ [];
          };
    }

-- there are at most 8 variables, of 1 to 16 values, and 1 to 16 rules
abbrev pub Few : Parts → Type 0
Few p = (width_of p ≤ 8) × Sized (sizes_of p) × (1 ≤ rule_count p) × (rule_count p ≤ 16)

-- each rule has a need and a set for each variable
abbrev pub Filled : Parts → Type 0
Filled p = (r : ℕ) → r < rule_count p → (length (needs_of p r) ≡ width_of p) × (length (sets_of p r) ≡ width_of p)

-- each value that a rule sets is below its variable's size
abbrev pub InRange : Parts → Type 0
InRange p = (r j v : ℕ) → (r < rule_count p) × (j < width_of p) × (slice_index_or (sets_of p r) j None ≡ Some v) → v < slice_index (sizes_of p) j
