-- The length of a part of a list, and what stands in it. Assumes nothing.
use Rattle.std.proofs.Common.{◌≡◌, ℕ, ◌+◌, ◌<◌, ◌≤◌, List, length, get_or, take, drop, arith}
use Rattle.std.proofs.lemmas.List.{get_or-take, get_or-drop, length-take, length-drop}
use Rattle.table.specs.Words.{part}

module _ {X : Type 0} (xs : List X) (from n : ℕ) where
  pub part_long : from + n ≤ length xs → length (part from n xs) ≡ n
  part_long fits = simp (length-take, length-drop) (omega arith)

  pub part_short : length (part from n xs) ≤ n
  part_short = simp (length-take, length-drop) (omega arith)

  pub part_at : (k : ℕ) (d : X) → k < n → get_or (part from n xs) k d ≡ get_or xs (from + k) d
  part_at k d lt = rw (get_or-take, get_or-drop)

  -- a place of a part is a place of the whole
  pub part_inside : (k : ℕ) → k < length (part from n xs) → (k < n) × (from + k < length xs)
  part_inside k lt =
      let l : k < length (take n (drop from xs)) = lt in
      (omega (arith, part_short), omega (arith, simp (length-take, length-drop) at l))
