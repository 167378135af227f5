-- What is known of a plant, the systems that agree with it, and the words of a verdict. Relies on tableau's runs over open states.
use Rattle.std.specs.Prelude.{◌≡◌, ℕ, ◌^◌, ◌<◌, Bool, true, false}
use Rattle.formula.specs.Ltl.{Ltl}
use Rattle.meaning.specs.Runs.{Run, places, state_at, IsRun, Violates}
use Rattle.meaning.specs.Systems.{System, HasArc, Initial}
use Rattle.tableau.specs.Opens.{OverOpen}

-- what is known of a plant: how many events there are, its initial states, and facts and arcs of the open states of its system
pub record Known : Type 0 where
  pub system : System
  pub events : ℕ
  pub opened : ℕ → Bool

-- a finite system that agrees with what is known: its states are the numbers below `count`, and the open states are as they are known
pub record Second (K : Known) (N : System) : Type 0 where
  pub count : ℕ
  pub starts : N.initial ≡ K.system.initial
  pub initial : (s : ℕ) → Initial N s → s < count
  pub facts : (s : ℕ) → s < count → N.facts s < 2 ^ 32
  pub moves : (s t s' : ℕ) → s < count → HasArc N s t s' → (t < K.events) × (s' < count)
  pub open_states : (s : ℕ) → K.opened s ≡ true → s < count
  pub open_facts : (s : ℕ) → K.opened s ≡ true → N.facts s ≡ K.system.facts s
  pub open_arcs : (s : ℕ) → K.opened s ≡ true → N.arcs s ≡ K.system.arcs s

-- the first closed state of the run is c
abbrev pub FirstClosed : Known → Run → ℕ → Type 0
FirstClosed K r c =
    (j : ℕ) × (j < places r) × (state_at r j ≡ c) × (K.opened c ≡ false) × ((i : ℕ) → i < j → K.opened (state_at r i) ≡ true)

-- the plant's system has a violating run over open states alone
abbrev pub Broken : Known → Ltl → Type 0
Broken K f = (r : Run) × IsRun K.system r × OverOpen K.opened r × Violates K.system r f

-- some second system has a violating run
abbrev pub Doubtful : Known → Ltl → Type 0
Doubtful K f = (N : System) × Second K N × ((r : Run) × IsRun N r × Violates N r f)

-- some second system has a violating run whose first closed state is c
abbrev pub Spoiled : Known → Ltl → ℕ → Type 0
Spoiled K f c = (N : System) × Second K N × ((r : Run) × IsRun N r × FirstClosed K r c × Violates N r f)

-- what is known is within limits: states and facts below 2^32, events below their number
pub record Sound (K : Known) : Type 0 where
  pub starts : (s : ℕ) → Initial K.system s → s < 2 ^ 32
  pub states : (s : ℕ) → K.opened s ≡ true → s < 2 ^ 32
  pub facts : (s : ℕ) → K.opened s ≡ true → K.system.facts s < 2 ^ 32
  pub moves : (s t s' : ℕ) → K.opened s ≡ true → HasArc K.system s t s' → (t < K.events) × (s' < 2 ^ 32)

-- the whole system is within these limits, and not only what is known of it
pub record Bounded (K : Known) : Type 0 where
  pub starts : (s : ℕ) → Initial K.system s → s < 2 ^ 32
  pub states : (s : ℕ) → K.opened s ≡ true → s < 2 ^ 32
  pub facts : (s : ℕ) → s < 2 ^ 32 → K.system.facts s < 2 ^ 32
  pub moves : (s t s' : ℕ) → s < 2 ^ 32 → HasArc K.system s t s' → (t < K.events) × (s' < 2 ^ 32)
