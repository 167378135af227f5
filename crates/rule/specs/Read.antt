-- What is read of a rule plant's words, and when they are granted. Relies on Words, Meaning and guarded's parts.
use Rattle.std.specs.Prelude.{◌≡◌, ℕ, ◌<◌, cond, List, map, length, Some, None, vec_items, Option, ◌==◌}
use Rattle.refusal.specs.Rows.{Clear}
use Rattle.plant.specs.Model.{Model, Lawful}
use Rattle.guarded.specs.declared.Parts.{Parts}
use Rattle.guarded.specs.declared.Rule.{Rule}
use Rattle.guarded.specs.Made.{sizes_of, needs_in, sets_in}
use Rattle.rule.specs.Words.{variables, rules, sizes, needs, sets, rows}
use Rattle.rule.specs.Meaning.{Means}

-- the value that a need or a set names: 255 names none
abbrev pub value_in : ℕ → Option ℕ
value_in w = cond (w == 255) None (Some w)

-- the rules are those that stand in the words
pub record Ruled (ws : List ℕ) (all : List Rule) : Type 0 where
  pub many : length all ≡ rules ws
  pub by_needs : (r : ℕ) → r < rules ws → needs_in (variables ws) all r ≡ map value_in (needs ws r)
  pub by_sets : (r : ℕ) → r < rules ws → sets_in (variables ws) all r ≡ map value_in (sets ws r)

-- the parts are what stands in the words
pub record Reads (ws : List ℕ) (p : Parts) : Type 0 where
  pub by_sizes : sizes_of p ≡ sizes ws
  pub ruled : Ruled ws (vec_items p.rules)

-- no row refuses the words, and the model is what they mean
pub record Granted (ws : List ℕ) (M : Model) : Type 0 where
  pub clear : Clear (rows ws)
  pub means : Means ws M
  pub lawful : Lawful M
