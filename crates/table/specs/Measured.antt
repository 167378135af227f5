-- The rules that the words of a table keep one after another, and what the searches among them find. Relies on Words and Refused.
use Rattle.std.specs.Prelude.{◌≡◌, ℕ, ◌^◌, ◌<◌, ◌≤◌, Bool, true, false, List, length, Option, MatchOption, sum, slice_index, slice_index_or}
use Rattle.table.specs.Words.{arc_count, size, counts}
use Rattle.table.specs.Refused.{OffLimits, OutOfRange, Repeated}

-- S, E, I and A are within their limits, and there are as many words as they say, each of 32 bits
pub record Measured (ws : List ℕ) : Type 0 where
  pub fits : (i : ℕ) → slice_index ws i < 2 ^ 32
  pub some : 4 ≤ length ws
  pub limits : (i : ℕ) → OffLimits ws i → ⊥
  pub long : length ws ≡ size ws

-- every rule is kept
pub record Kept (ws : List ℕ) : Type 0 where
  pub measured : Measured ws
  pub ranged : (i : ℕ) → OutOfRange ws i → ⊥
  pub adds : sum (counts ws) ≡ arc_count ws
  pub apart : (i : ℕ) → Repeated ws i → ⊥

-- k is the lowest place whose word is not below the limit
pub record FirstBeyond (ws : List ℕ) (limit k : ℕ) : Type 0 where
  pub within : k < length ws
  pub high : limit ≤ slice_index ws k
  pub below : (j : ℕ) → j < k → slice_index ws j < limit

-- what stands at k stands before it too
pub record Again {X : Type 0} (xs : List X) (k : ℕ) : Type 0 where
  pub within : k < length xs
  pub earlier : ℕ
  pub before : earlier < k
  pub same : (d : X) → slice_index_or xs earlier d ≡ slice_index_or xs k d

-- k is the lowest of count places that is the same as one before it; `says j k b` where b was answered to whether j and k are the same
pub record FirstSame (says : ℕ → ℕ → Bool → Type 0) (count k : ℕ) : Type 0 where
  pub within : k < count
  pub earlier : ℕ
  pub before : earlier < k
  pub same : says earlier k true
  pub none_below : (i j : ℕ) → i < j → j < k → says i j false

-- what a search for it found: such a place, or `None` where no two are the same
pub record Searched (says : ℕ → ℕ → Bool → Type 0) (count : ℕ) (found : Option ℕ) : Type 0 where
  pub answer : MatchOption found ((j k : ℕ) → j < k → k < count → says j k false) (FirstSame says count)
