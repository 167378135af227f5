-- What the words of a rule plant mean. Relies on Words and plant's models.
use Rattle.std.specs.Prelude.{◌≡◌, ℕ, ◌+◌, ◌*◌, ◌<◌, Bool, true, cond, not, ◌&&◌, ◌||◌, List, [], ◌∷◌, Decides, fold, ◌==◌, slice_index}
use Rattle.std.specs.List.{range_with_len, flat_map, AllZip}
use Rattle.meaning.specs.declared.Arc.{Arc}
use Rattle.meaning.specs.Systems.{HasFact}
use Rattle.plant.specs.Model.{Model}
use Rattle.rule.specs.Words.{rules, sizes, needs, sets}

-- how many states there are: the product of the sizes
abbrev pub product : List ℕ → ℕ
product ns = fold ◌*◌ 1 ns

-- each value times the product of the sizes before it, which begins at w
abbrev pub weighed : ℕ → List ℕ → List ℕ → ℕ
weighed w [] vs = 0
weighed w (n ∷ ns) [] = 0
weighed w (n ∷ ns) (v ∷ vs) = v * w + weighed (w * n) ns vs

-- the number of the state in which the variables have the values vs
abbrev pub number : List ℕ → List ℕ → ℕ
number ns vs = weighed 1 ns vs

-- vs has a value for each variable, below its size
abbrev pub Values : List ℕ → List ℕ → Type 0
Values ns vs = AllZip (λ n v. v < n) ns vs

-- each need is 255, or the variable's value
abbrev pub met : List ℕ → List ℕ → Bool
met [] vs = true
met (n ∷ ns) [] = true
met (n ∷ ns) (v ∷ vs) = (n == 255 || n == v) && met ns vs

-- the values after the sets: 255 leaves a value as it is
abbrev pub changed : List ℕ → List ℕ → List ℕ
changed [] vs = vs
changed (n ∷ ns) [] = []
changed (n ∷ ns) (v ∷ vs) = cond (n == 255) v n ∷ changed ns vs

-- the arc of rule r, where its needs are met
abbrev pub arc_of : List ℕ → List ℕ → ℕ → List Arc
arc_of ws vs r =
    cond (met (needs ws r) vs) (record { event = r; target = number (sizes ws) (changed (sets ws r) vs) } ∷ []) []

-- the arcs of a state, in the order of the rules
abbrev pub arcs_at : List ℕ → List ℕ → List Arc
arcs_at ws vs = flat_map (arc_of ws vs) (range_with_len 0 (rules ws))

-- M is what the words mean
pub record Means (ws : List ℕ) (M : Model) : Type 0 where
  pub events : M.events ≡ rules ws
  pub extent : M.extent ≡ product (sizes ws)
  pub width : M.width ≡ rules ws
  pub initial : M.system.initial ≡ 0 ∷ []
  -- below the extent, a state's number is that of some values, and of no others
  pub numbered : (s : ℕ) → s < M.extent → (vs : List ℕ) × Values (sizes ws) vs × (number (sizes ws) vs ≡ s)
  pub once : (us vs : List ℕ) → Values (sizes ws) us → Values (sizes ws) vs → number (sizes ws) us ≡ number (sizes ws) vs → us ≡ vs
  -- fact j is true where variable j is not 0; past the variables no fact is
  pub facts : (vs : List ℕ) → Values (sizes ws) vs → (j : ℕ) → Decides (not (slice_index vs j == 0)) (HasFact M.system (number (sizes ws) vs) j)
  pub arcs : (vs : List ℕ) → Values (sizes ws) vs → M.system.arcs (number (sizes ws) vs) ≡ arcs_at ws vs
