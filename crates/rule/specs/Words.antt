-- Rule plants as words: V and R, then V sizes, then R rows of V needs, then R rows of V sets. Assumes nothing.
use Rattle.std.specs.Prelude.{◌≡◌, ℕ, ◌+◌, ◌*◌, ◌<◌, ◌≤◌, List, [], ◌∷◌, length, take, drop, slice_index, slice_index_or}
use Rattle.refusal.specs.Rows.{Row, Lowest, Fails}
use Rattle.refusal.specs.declared.Layer.TheVariants.{Plant}

-- how many variables
abbrev pub variables : List ℕ → ℕ
variables ws = slice_index ws 0

-- how many rules
abbrev pub rules : List ℕ → ℕ
rules ws = slice_index ws 1

-- the size of each variable
abbrev pub sizes : List ℕ → List ℕ
sizes ws = take (variables ws) (drop 2 ws)

-- the needs of all rules, and their sets
abbrev pub all_needs : List ℕ → List ℕ
all_needs ws = take (rules ws * variables ws) (drop (2 + variables ws) ws)

abbrev pub all_sets : List ℕ → List ℕ
all_sets ws = take (rules ws * variables ws) (drop (2 + variables ws + rules ws * variables ws) ws)

-- row k of the rows behind the sizes: first the needs of each rule, then the sets of each
abbrev pub row : List ℕ → ℕ → List ℕ
row ws k = take (variables ws) (drop (2 + variables ws + k * variables ws) ws)

abbrev pub needs : List ℕ → ℕ → List ℕ
needs ws r = row ws r

abbrev pub sets : List ℕ → ℕ → List ℕ
sets ws r = row ws (rules ws + r)

-- the counts and the sizes are within their limits, and the words are as many as they say
pub record Shaped (ws : List ℕ) : Type 0 where
  pub some_variables : 1 ≤ variables ws
  pub few_variables : variables ws ≤ 8
  pub some_rules : 1 ≤ rules ws
  pub few_rules : rules ws ≤ 16
  pub long : length ws ≡ 2 + variables ws + 2 * (rules ws * variables ws)
  pub some_values : (j : ℕ) → j < variables ws → 1 ≤ slice_index (sizes ws) j
  pub few_values : (j : ℕ) → j < variables ws → slice_index (sizes ws) j ≤ 16

-- at place i stands a need or a set of variable j that is neither 255 nor a value of j
pub record Foreign (ws : List ℕ) (i : ℕ) : Type 0 where
  pub at_row : ℕ
  pub at_variable : ℕ
  pub row_within : at_row < 2 * rules ws
  pub variable_within : at_variable < variables ws
  pub place : i ≡ 2 + variables ws + (at_row * variables ws + at_variable)
  pub not_any : slice_index_or ws i 0 ≡ 255 → ⊥
  pub too_high : slice_index_or (sizes ws) at_variable 0 ≤ slice_index ws i

-- what is refused, in its order
abbrev pub rows : List ℕ → List Row
rows ws =
    record { number = 35; layer = Plant; applies = Fails (Shaped ws) }
    ∷ record { number = 36; layer = Plant; applies = Lowest (Foreign ws) }
    ∷ []
