-- Of a rule's needs and sets only as many count as there are variables. Relies on guarded's values.
use Rattle.std.proofs.Common.{◌≡◌, ℕ, zero, suc, ◌<◌, ◌≤◌, ◌&&◌, List, [], ◌∷◌, length, get_or, slice_get, take, vec_items, Some, None, Option, unwrap_or, refl, sym, ap, ◌∙◌, arith}
use Rattle.std.specs.Option.{option_map_or}
use Rattle.std.proofs.lemmas.Option.{slice_get_read}
use Rattle.std.proofs.lemmas.List.{length-take, get_or-take}
use Rattle.guarded.specs.declared.Parts.{Parts}
use Rattle.guarded.specs.declared.Rule.{Rule}
use Rattle.guarded.specs.Values.{values_of, admits, meets, after, Ranged}
use Rattle.guarded.specs.Made.{sizes_of, width_of, rule_count, needs_of, sets_of, Filled, InRange}
use Rattle.guarded.proofs.Numbering.{length_values}

pub meets_first : (n : ℕ) (os : List (Option ℕ)) (vs : List ℕ) → length vs ≤ n → meets (take n os) vs ≡ meets os vs
meets_first zero [] vs few = refl
meets_first (suc n) [] vs few = refl
meets_first zero (o ∷ os) [] few = refl
meets_first zero (o ∷ os) (v ∷ vs) few = absurd (omega arith)
meets_first (suc n) (o ∷ os) [] few = refl
meets_first (suc n) (o ∷ os) (v ∷ vs) few = ap (λ b. admits o v && b) (meets_first n os vs (omega arith))

pub after_first : (n : ℕ) (os : List (Option ℕ)) (vs : List ℕ) → length vs ≤ n → after (take n os) vs ≡ after os vs
after_first zero [] vs few = refl
after_first (suc n) [] vs few = refl
after_first zero (o ∷ os) [] few = refl
after_first zero (o ∷ os) (v ∷ vs) few = absurd (omega arith)
after_first (suc n) (o ∷ os) [] few = refl
after_first (suc n) (o ∷ os) (v ∷ vs) few = ap (λ ws. unwrap_or o v ∷ ws) (after_first n os vs (omega arith))

-- rule r of the parts, as it is read by its index
module _ (p : Parts) (r k : ℕ) (x : Rule) (lt : r < rule_count p) (is : k ≡ r) (at : x ≡ get_or (vec_items p.rules) k x) where
  found : slice_get (vec_items p.rules) r ≡ Some x
  found = slice_get_read (vec_items p.rules) (rule_count p) r x refl lt (at ∙ ap (λ n. get_or (vec_items p.rules) n x) is)

  needs_found : needs_of p r ≡ take (width_of p) x.needs
  needs_found = ap (λ o. option_map_or (λ (rule : Rule). take (width_of p) rule.needs) o []) found

  sets_found : sets_of p r ≡ take (width_of p) x.sets
  sets_found = ap (λ o. option_map_or (λ (rule : Rule). take (width_of p) rule.sets) o []) found

  few_values : (s : ℕ) → length (values_of (sizes_of p) s) ≤ width_of p
  few_values s = omega (arith, length_values (sizes_of p) s)

  pub needs_meet : (s : ℕ) → meets x.needs (values_of (sizes_of p) s) ≡ meets (needs_of p r) (values_of (sizes_of p) s)
  needs_meet s =
      sym (meets_first (width_of p) x.needs (values_of (sizes_of p) s) (few_values s)) ∙ ap (λ os. meets os (values_of (sizes_of p) s)) (sym needs_found)

  pub sets_lead : (s : ℕ) → after x.sets (values_of (sizes_of p) s) ≡ after (sets_of p r) (values_of (sizes_of p) s)
  sets_lead s =
      sym (after_first (width_of p) x.sets (values_of (sizes_of p) s) (few_values s)) ∙ ap (λ os. after os (values_of (sizes_of p) s)) (sym sets_found)

  pub sets_long : Filled p → width_of p ≤ length x.sets
  sets_long filled = omega (arith, ap length (sym sets_found) ∙ (filled r lt).1, length-take (width_of p) x.sets)

  pub sets_ranged : InRange p → Ranged (sizes_of p) x.sets
  sets_ranged ranged j v h = ranged r j v (lt, h.0, ap (λ os. get_or os j None) sets_found ∙ get_or-take (width_of p) x.sets j None h.0 ∙ h.1)
