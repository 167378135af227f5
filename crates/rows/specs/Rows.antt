-- Rows of truths in a table of bytes. Assumes nothing.
use Rattle.std.specs.Prelude.{◌≡◌, ℕ, ◌+◌, ◌<◌, ◌≤◌, Bool, List, ◌==◌, slice_index}
use Rattle.formula.specs.Table.{arity}
use Rattle.formula.specs.declared.entry.Entry.{Entry}

-- what the row at a byte says of a place
abbrev pub on : List ℕ → ℕ → ℕ → Bool
on t base p = slice_index t (base + p) == 1

-- the row at base says F of each of m places
abbrev pub Row : List ℕ → ℕ → ℕ → (ℕ → Bool) → Type 0
Row t base m F = (p : ℕ) → p < m → on t base p ≡ F p

-- below a byte the two tables are the same
abbrev pub SameBelow : List ℕ → List ℕ → ℕ → Type 0
SameBelow t t' n = (k : ℕ) → k < n → slice_index t' k ≡ slice_index t k

-- the rows that an entry asks for, of m places each, stand below a byte
pub record Stand (e : Entry) (first last m out : ℕ) : Type 0 where
  pub one : 0 < arity e → last + m ≤ out
  pub two : 1 < arity e → first + m ≤ out
