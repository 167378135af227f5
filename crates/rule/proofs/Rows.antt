-- The rows of needs and sets, one after another. Relies on Picks.
use Rattle.std.proofs.Common.{◌≡◌, ℕ, ◌+◌, ◌-◌, ◌*◌, ◌<◌, ◌≤◌, min, List, ◌++◌, Some, None, Option, Bor, length, take, drop, sym, ap, ◌∙◌, inl, inr, ◌⊎◌, ⊎_elim, add-mul, mul-le-mul_right, arith}
use Rattle.std.specs.Iterator.Adapters.{zip_first, zip_second, zip_steps}
use Rattle.std.specs.Slice.Iter.{chunks_rest, chunks_size, chunks_steps}
use Rattle.std.specs.declared.iter.Zip.{Zip}
use Rattle.std.specs.declared.slice.Chunks.{Chunks}
use Rattle.std.proofs.lemmas.List.{take-take, drop-take, drop-drop, take_at, drop_at, length-take-le, length-drop}
use Rattle.std.proofs.lemmas.Bool.{cases_lt}
use Rattle.std.specs.List.{All}
use Rattle.rule.specs.Words.{variables, rules, row, needs, sets, all_needs, all_sets, Shaped, Foreign}
use Rattle.rule.proofs.Picks.{row_within}
use Rattle.rule.proofs.Spots.{bytes_in}

-- row r of n rows of w that stand from a on
pub row_is : (ws : List ℕ) (a n w r : ℕ) → r < n → take w (drop (r * w) (take (n * w) (drop a ws))) ≡ take w (drop (a + r * w) ws)
row_is ws a n w r l =
    let within : r * w + w ≤ n * w = row_within r n w l in
    let split : n * w ≡ r * w + (n * w - r * w) = omega arith in
    ap (take w) (ap (λ k. drop (r * w) (take k (drop a ws))) split ∙ drop-take (r * w) (n * w - r * w) (drop a ws))
    ∙ take-take w (n * w - r * w) (drop (r * w) (drop a ws)) (omega arith)
    ∙ ap (take w) (drop-drop (r * w) a ws)

-- the next row of n rows of w, where r have gone
module _ (xs own more left : List ℕ) (size n w r : ℕ) (is : size ≡ w) (long : length xs ≡ n * w) (behind : left ≡ drop (r * w) xs) (cut : left ≡ own ++ more) (whole : length own ≡ min size (length left)) (some : 0 < length left) where
  left_long : length left ≡ n * w - r * w
  left_long = ap length behind ∙ length-drop (r * w) xs ∙ ap (λ k. k - r * w) long

  pub one_left : r < n
  one_left = ⊎_elim (λ lt. lt) (λ ge. absurd (omega (arith, left_long, mul-le-mul_right {m = n} {n = r} w ge))) (cases_lt r n)

  row_long : length own ≡ w
  row_long = omega (arith, left_long, row_within r n w one_left)

  pub next_row : own ≡ take w (drop (r * w) xs)
  next_row = sym (take_at own more w row_long) ∙ ap (take w) (sym cut ∙ behind)

  pub next_left : more ≡ drop ((r + 1) * w) xs
  next_left =
      let further : r * w + w ≡ (r + 1) * w = omega (arith, add-mul r 1 w) in
      sym (drop_at own more w row_long) ∙ ap (drop w) (sym cut ∙ behind) ∙ drop-drop w (r * w) xs ∙ ap (λ k. drop k xs) further

-- what the next turn of a loop over the chunks of two slices takes off
pub chunk_turn : {A B : Type 0} (s t : Zip (Chunks A) (Chunks B)) (r : Option (Bor (List A) × Bor (List B))) (p : Bor (List A) × Bor (List B)) → r ≡ Some p → zip_steps chunks_steps chunks_steps s r t → chunks_steps (zip_first s) (Some p.0) (zip_first t) × chunks_steps (zip_second s) (Some p.1) (zip_second t)
chunk_turn s t r p is steps = rw is at steps

-- where one of the slices has no chunk left
pub chunk_end : {A B : Type 0} (s t : Zip (Chunks A) (Chunks B)) (r : Option (Bor (List A) × Bor (List B))) → r ≡ None → zip_steps chunks_steps chunks_steps s r t → (length (chunks_rest (zip_first s)) ≡ 0) ⊎ (length (chunks_rest (zip_second s)) ≡ 0)
chunk_end s t r is steps = ⊎_elim (λ u. inl u.1.1.0) (λ u. inr u.1.1.0) (rw is at steps)

-- all rows have gone where nothing is left
pub all_gone : (xs left : List ℕ) (n w r : ℕ) → 1 ≤ w → left ≡ drop (r * w) xs → length xs ≡ n * w → length left ≡ 0 → n ≤ r
all_gone xs left n w r some is long none =
    ⊎_elim
    (λ lt. absurd (omega (arith, ap length is, length-drop (r * w) xs, long, row_within r n w lt)))
    (λ ge. ge)
    (cases_lt r n)

-- the turn for row r of n rows of w, of which the chunks are left
module _ (xs : List ℕ) (s t : Chunks ℕ) (x : Bor (List ℕ)) (n w r : ℕ) (step : chunks_steps s (Some x) t) (size : chunks_size s ≡ w) (left : chunks_rest s ≡ drop (r * w) xs) (long : length xs ≡ n * w) where
  pub turn_within : r < n
  turn_within = one_left xs x.now (chunks_rest t) (chunks_rest s) (chunks_size s) n w r size long left step.1.0 step.1.1 step.1.2

  pub turn_row : x.now ≡ take w (drop (r * w) xs)
  turn_row = next_row xs x.now (chunks_rest t) (chunks_rest s) (chunks_size s) n w r size long left step.1.0 step.1.1 step.1.2

  pub turn_left : chunks_rest t ≡ drop ((r + 1) * w) xs
  turn_left = next_left xs x.now (chunks_rest t) (chunks_rest s) (chunks_size s) n w r size long left step.1.0 step.1.1 step.1.2

-- the rows of the needs and of the sets of the words
module _ (ws : List ℕ) (shaped : Shaped ws) where
  pub long_needs : length (all_needs ws) ≡ rules ws * variables ws
  long_needs = length-take-le (rules ws * variables ws) (drop (2 + variables ws) ws) (omega (arith, length-drop (2 + variables ws) ws, shaped.long))

  pub long_sets : length (all_sets ws) ≡ rules ws * variables ws
  long_sets =
      length-take-le (rules ws * variables ws) (drop (2 + variables ws + rules ws * variables ws) ws)
      (omega (arith, length-drop (2 + variables ws + rules ws * variables ws) ws, shaped.long))

  pub needs_row : (r : ℕ) → r < rules ws → take (variables ws) (drop (r * variables ws) (all_needs ws)) ≡ needs ws r
  needs_row r l = row_is ws (2 + variables ws) (rules ws) (variables ws) r l

  pub sets_row : (r : ℕ) → r < rules ws → take (variables ws) (drop (r * variables ws) (all_sets ws)) ≡ sets ws r
  sets_row r l =
      let place : 2 + variables ws + rules ws * variables ws + r * variables ws ≡ 2 + variables ws + (rules ws + r) * variables ws =
      omega (arith, add-mul (rules ws) r (variables ws)) in
      row_is ws (2 + variables ws + rules ws * variables ws) (rules ws) (variables ws) r l ∙ ap (λ a. take (variables ws) (drop a ws)) place

  -- row k behind the sizes has a word for each variable
  pub long_row : (k : ℕ) → k < 2 * rules ws → length (row ws k) ≡ variables ws
  long_row k l =
      length-take-le (variables ws) (drop (2 + variables ws + k * variables ws) ws)
      (omega (arith, length-drop (2 + variables ws + k * variables ws) ws, shaped.long, row_within k (2 * rules ws) (variables ws) l))

  -- where no word is foreign, each of row k behind the sizes is at most 255
  pub row_bytes : ((i : ℕ) → Foreign ws i → ⊥) → (k : ℕ) → k < 2 * rules ws → All (λ word. word ≤ 255) (row ws k)
  row_bytes native k l =
      bytes_in ws shaped native (2 + variables ws + k * variables ws) (variables ws) (omega arith)
      (omega (arith, shaped.long, row_within k (2 * rules ws) (variables ws) l))
