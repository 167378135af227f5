-- One variable at a time: what the recursions over sizes, needs and sets go by. Relies on guarded's lemmas.
use Rattle.std.proofs.Common.{◌≡◌, ℕ, ◌-◌, ◌^◌, ◌<◌, ◌≤◌, List, [], ◌∷◌, length, get_or, take, drop, None, Option, sym, ap, subst, arith, pow_mono}
use Rattle.std.proofs.lemmas.List.{take_rest}
use Rattle.guarded.specs.Values.{extent_of, values_of, number_of, facts_of, after, Sized, Ranged}
use Rattle.guarded.proofs.Numbering.{ranged_tail, length_values, values_below, number_below, after_below, extent_few, facts_few}

-- what is left behind the first
abbrev pub rest : {A : Type 0} → List A → List A
rest xs = take (length xs - 1) (drop 1 xs)

pub whole : {A : Type 0} (xs : List A) (d : A) → 0 < length xs → xs ≡ get_or xs 0 d ∷ rest xs
whole [] d l = absurd (omega arith)
whole (x ∷ xs) d l = ap (λ ys. x ∷ ys) (sym (take_rest (x ∷ xs) 1))

pub ranged_rest : (ns : List ℕ) (n : ℕ) (ms : List ℕ) (os : List (Option ℕ)) → ns ≡ n ∷ ms → 0 < length os → Ranged ns os → Ranged ms (rest os)
ranged_rest ns n ms os is l h = ranged_tail n ms (get_or os 0 None) (rest os) (subst (λ ks. Ranged ks (get_or os 0 None ∷ rest os)) is (subst (Ranged ns) (whole os None l) h))

-- the bounds that keep the sums and products in their types
pub extent_fits : (ns : List ℕ) → length ns ≤ 8 → Sized ns → extent_of ns ≤ 2 ^ 32
extent_fits ns few h = extent_few ns 8 h few

pub facts_fit : (ns : List ℕ) (s : ℕ) → length ns ≤ 8 → facts_of (values_of ns s) < 2 ^ 8
facts_fit ns s few =
    let short : length (values_of ns s) ≤ 8 = omega (arith, length_values ns s) in
    omega (arith, facts_few (values_of ns s), pow_mono short)

pub target_fits : (ns : List ℕ) (os : List (Option ℕ)) (s : ℕ) → length ns ≤ 8 → Sized ns → Ranged ns os
    → number_of ns (after os (values_of ns s)) < 2 ^ 32
target_fits ns os s few h r =
    omega (arith, extent_fits ns few h, number_below ns (after os (values_of ns s)) (after_below ns (values_of ns s) os (values_below ns s h) r))
