-- At which places foreign words stand. Assumes nothing.
use Rattle.std.proofs.Common.{◌≡◌, ℕ, ◌+◌, ◌-◌, ◌*◌, ◌/◌, ◌%◌, ◌<◌, ◌≤◌, Some, None, Option, MatchOption, List, length, get_or, take, drop, ap, ◌∙◌, subst, ⊎_elim, mul-le-mul_right, arith}
use Rattle.std.specs.List.{All, HoldsAt, AllWithin, range_with_len}
use Rattle.std.proofs.lemmas.Nat.{div-add-mod', mod_below, div_below, mod-mul-add}
use Rattle.std.proofs.lemmas.List.{length-take-le, length-drop, get_or-take, get_or-drop, get_or_default}
use Rattle.std.proofs.lemmas.List.FromFn.{length-range_with_len, get_or-range_with_len}
use Rattle.std.proofs.lemmas.Bool.{cases_lt, cases_eq}
use Rattle.refusal.specs.Rows.{Lowest}
use Rattle.rule.specs.Words.{variables, rules, sizes, Shaped, Foreign}

module _ (ws : List ℕ) (shaped : Shaped ws) where
  -- the variable of which the word at place i speaks
  abbrev pub variable_at : ℕ → ℕ
  variable_at i = (i - (2 + variables ws)) % variables ws

  -- the word at place i is neither 255 nor below its variable's size
  abbrev pub Spot : ℕ → Type 0
  Spot i = (get_or ws i 0 ≡ 255 → ⊥) × (get_or (sizes ws) (variable_at i) 0 ≤ get_or ws i 0)

  pub long_sizes : length (sizes ws) ≡ variables ws
  long_sizes = length-take-le (variables ws) (drop 2 ws) (omega (arith, length-drop 2 ws, shaped.long))

  -- a foreign word stands behind the sizes
  pub foreign_behind : (i : ℕ) → Foreign ws i → 2 + variables ws ≤ i
  foreign_behind i f = omega (arith, f.place)

  pub foreign_within : (i : ℕ) → Foreign ws i → i < length ws
  foreign_within i f =
      omega (arith, f.place, f.variable_within, shaped.long, mul-le-mul_right {m = f.at_row + 1} {n = 2 * rules ws} (variables ws) (omega (arith, f.row_within)))

  pub spot_of : (i : ℕ) → Foreign ws i → Spot i
  spot_of i f =
      let behind : i - (2 + variables ws) ≡ f.at_row * variables ws + f.at_variable = omega (arith, f.place) in
      let same : variable_at i ≡ f.at_variable =
      ap (λ k. k % variables ws) behind ∙ mod-mul-add f.at_row (variables ws) f.at_variable f.variable_within in
      (f.not_any, omega (arith, ap (λ j. get_or (sizes ws) j 0) same, f.too_high))

  pub variable_below : (i : ℕ) → variable_at i < variables ws
  variable_below i = mod_below (i - (2 + variables ws)) (variables ws) shaped.some_variables

  pub foreign_at : (i : ℕ) → 2 + variables ws ≤ i → i < length ws → Spot i → Foreign ws i
  foreign_at i behind within spot =
      record {
        at_row = (i - (2 + variables ws)) / variables ws;
        at_variable = variable_at i;
        row_within = div_below (i - (2 + variables ws)) (variables ws) (2 * rules ws) shaped.some_variables (omega (arith, shaped.long));
        variable_within = variable_below i;
        place = omega (arith, div-add-mod' (i - (2 + variables ws)) (variables ws));
        not_any = spot.0;
        too_high = spot.1;
      }

  -- what a search from the sizes on found
  pub lowest_foreign : (P : ℕ → Type 0) → ((i : ℕ) → P i → Spot i) → ((i : ℕ) → Spot i → P i) → (from n : ℕ) (r : Option ℕ) → from ≡ 2 + variables ws → from + n ≡ length ws
      → MatchOption r (AllWithin (λ i. P i → ⊥) (range_with_len from n) 0 (length (range_with_len from n)))
      (λ x. P x × (k : ℕ) × (k < length (range_with_len from n)) × HoldsAt (λ y. y ≡ x) (range_with_len from n) k × AllWithin (λ i. P i → ⊥) (range_with_len from n) 0 k)
      → MatchOption r ((i : ℕ) → Foreign ws i → ⊥) (Lowest (Foreign ws))
  lowest_foreign P to back from n None starts ends none = λ i f.
      let k = i - from in
      let inside : k < n = omega (arith, foreign_within i f, foreign_behind i f, starts, ends) in
      let at : get_or (range_with_len from n) k 0 ≡ i = omega (arith, get_or-range_with_len from n k 0 inside, foreign_behind i f, starts) in
      subst (λ m. P m → ⊥) at (none k 0 (omega arith) (omega (arith, length-range_with_len from n))) (back i (spot_of i f))
  lowest_foreign P to back from n (Some x) starts ends found =
      let k = found.1 in
      let inside : k < n = omega (arith, found.2, length-range_with_len from n) in
      let is : from + k ≡ x = omega (arith, get_or-range_with_len from n k 0 inside, found.3 0) in
      record {
        here = foreign_at x (omega (arith, is, starts)) (omega (arith, is, ends, inside)) (to x found.0);
        none_below = λ i lt f.
            let j = i - from in
            let low : j < k = omega (arith, lt, is, foreign_behind i f, starts) in
            let at : get_or (range_with_len from n) j 0 ≡ i = omega (arith, get_or-range_with_len from n j 0 (omega (arith, low, inside)), foreign_behind i f, starts) in
            subst (λ m. P m → ⊥) at (found.4 j 0 (omega arith) low) (back i (spot_of i f));
      }

  pub byte_at : ((i : ℕ) → Foreign ws i → ⊥) → (i : ℕ) → 2 + variables ws ≤ i → i < length ws → get_or ws i 0 ≤ 255
  byte_at native i behind within =
      ⊎_elim
      (λ any. omega arith)
      (λ not_any.
      ⊎_elim
      (λ lt. omega (arith, shaped.few_values (variable_at i) (variable_below i)))
      (λ le. absurd (native i (foreign_at i behind within (not_any, le))))
      (cases_lt (get_or ws i 0) (get_or (sizes ws) (variable_at i) 0)))
      (cases_eq (get_or ws i 0) 255)

  -- each word of a part behind the sizes is at most 255
  pub bytes_in : ((i : ℕ) → Foreign ws i → ⊥) → (a n : ℕ) → 2 + variables ws ≤ a → a + n ≤ length ws → All (λ word. word ≤ 255) (take n (drop a ws))
  bytes_in native a n behind within k d l =
      let short : k < n = omega (arith, length-take-le n (drop a ws) (omega (arith, length-drop a ws))) in
      let same : get_or (take n (drop a ws)) k d ≡ get_or ws (a + k) 0 =
      get_or_default (take n (drop a ws)) k d 0 l ∙ get_or-take n (drop a ws) k 0 short ∙ get_or-drop a ws k 0 in
      omega (arith, same, byte_at native (a + k) (omega arith) (omega arith))
