-- What a row of places stands for: which states are open, and what is written down of each. Relies on meaning's systems.
use Rattle.std.specs.Prelude.{◌≡◌, ℕ, ◌<◌, ◌≤◌, Bool, false, IsTrue, if◌then◌else◌, List, [], ◌∷◌, take, filter_map, Some, None, Option, ◌==◌, slice_index_or}
use Rattle.std.specs.Option.{option_map, ForSome}
use Rattle.meaning.specs.declared.Arc.{Arc}
use Rattle.meaning.specs.Systems.{System}
use Rattle.book.specs.declared.record.Record.{Record}

-- what is said of one state: its facts and its arcs
pub record Saying : Type 0 where
  pub facts : ℕ
  pub arcs : List Arc

-- what a system says of a state
abbrev pub says : System → ℕ → Saying
says M s = record { facts = M.facts s; arcs = M.arcs s }

-- what a record says
abbrev pub saying_of : Record → Saying
saying_of r = record { facts = r.facts; arcs = take r.count r.arcs }

-- a record stands at the place, and is of the state s
abbrev pub names : Option Record → ℕ → Bool
names None s = false
names (Some r) s = r.state == s

-- what the book says of a state, if it is open
abbrev pub look : List (Option Record) → ℕ → Option Saying
look [] s = None
look (r ∷ rs) s = if names r s then option_map saying_of r else look rs s

-- the states that are open, in the order of their places
abbrev pub open_states : List (Option Record) → List ℕ
open_states rs = filter_map (option_map (λ (r : Record). r.state)) rs

-- the record at k is of the state s
abbrev pub Holds : List (Option Record) → ℕ → ℕ → Type 0
Holds rs s k = IsTrue (names (slice_index_or rs k None) s)

-- no two records are of one state
abbrev pub Apart : List (Option Record) → Type 0
Apart rs = (s i j : ℕ) → Holds rs s i × Holds rs s j × (i < j) → ⊥

-- no record has more arcs than it has room for
abbrev pub Few : List (Option Record) → Type 0
Few rs = (i : ℕ) → ForSome (slice_index_or rs i None) (λ r. r.count ≤ 16)

-- the same, and s is open too, with what is said of it
abbrev pub Adds : (ℕ → Option Saying) → ℕ → Saying → (ℕ → Option Saying) → Type 0
Adds before s e after = (t : ℕ) → after t ≡ (if s == t then Some e else before t)

-- the same, but that s is closed
abbrev pub Drops : (ℕ → Option Saying) → ℕ → (ℕ → Option Saying) → Type 0
Drops before s after = (t : ℕ) → after t ≡ (if s == t then None else before t)
