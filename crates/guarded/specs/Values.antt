-- Numbers of states as values of variables, and rules on the values, over plain lists. Assumes nothing.
use Rattle.std.specs.Prelude.{◌≡◌, ℕ, ◌+◌, ◌*◌, ◌/◌, ◌%◌, ◌<◌, ◌≤◌, Bool, true, cond, ◌&&◌, List, [], ◌∷◌, length, Some, None, Option, ◌==◌, slice_index, slice_index_or}
use Rattle.std.specs.Option.{unwrap_or}

-- how many states there are
abbrev pub extent_of : List ℕ → ℕ
extent_of [] = 1
extent_of (n ∷ ns) = n * extent_of ns

-- the values in state s, of variables with the sizes ns
abbrev pub values_of : List ℕ → ℕ → List ℕ
values_of [] s = []
values_of (n ∷ ns) s = s % n ∷ values_of ns (s / n)

-- the number of the state with the values vs
abbrev pub number_of : List ℕ → List ℕ → ℕ
number_of [] vs = 0
number_of (n ∷ ns) [] = 0
number_of (n ∷ ns) (v ∷ vs) = v + n * number_of ns vs

-- the facts at the values vs: bit j where value j is not 0
abbrev pub facts_of : List ℕ → ℕ
facts_of [] = 0
facts_of (v ∷ vs) = cond (v == 0) 0 1 + 2 * facts_of vs

-- a need of one variable is met by its value
abbrev pub admits : Option ℕ → ℕ → Bool
admits None v = true
admits (Some n) v = n == v

-- each need is met
abbrev pub meets : List (Option ℕ) → List ℕ → Bool
meets [] vs = true
meets (need ∷ needs) [] = true
meets (need ∷ needs) (v ∷ vs) = admits need v && meets needs vs

-- the values after the sets
abbrev pub after : List (Option ℕ) → List ℕ → List ℕ
after [] vs = vs
after (set ∷ sets) [] = []
after (set ∷ sets) (v ∷ vs) = unwrap_or set v ∷ after sets vs

-- each size is 1 to 16
abbrev pub Sized : List ℕ → Type 0
Sized ns = (j : ℕ) → j < length ns → (1 ≤ slice_index ns j) × (slice_index ns j ≤ 16)

-- each value that is set is below its variable's size
abbrev pub Ranged : List ℕ → List (Option ℕ) → Type 0
Ranged ns sets = (j v : ℕ) → (j < length ns) × (slice_index_or sets j None ≡ Some v) → v < slice_index ns j
