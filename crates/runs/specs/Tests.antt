-- What the test of a run is refused for, over a system of which some states are open. Relies on meaning's runs and refusal's tables.
use Rattle.std.specs.Prelude.{◌≡◌, ℕ, ◌+◌, ◌*◌, ◌<◌, ◌≤◌, Bool, false, ◌⊎◌, List, [], ◌∷◌, length, Some, None, Option, MatchOption, slice_index_or}
use Rattle.refusal.specs.declared.Layer.TheVariants.{Session}
use Rattle.refusal.specs.Rows.{Row, Lowest, Fails}
use Rattle.formula.specs.declared.entry.Entry.{Entry}
use Rattle.formula.specs.declared.entry.Entry.TheVariants.{True, Fact, Enabled, Taken, Not, Or, Next, Until}
use Rattle.meaning.specs.Systems.{System, HasArc, Initial}
use Rattle.meaning.specs.Runs.{Run, places, state_at, event_at, Closes}

-- the event that an entry names
abbrev pub event_of : Entry → Option ℕ
event_of True = None
event_of (Fact p) = None
event_of (Enabled t) = Some t
event_of (Taken t) = Some t
event_of Not = None
event_of Or = None
event_of Next = None
event_of Until = None

-- entry i names an event that is not below E
abbrev pub Beyond : ℕ → List Entry → ℕ → Type 0
Beyond E es i = (i < length es) × MatchOption (event_of (slice_index_or es i True)) ⊥ (λ t. E ≤ t)

-- the arrays are parallel and of 1 to 3,145,728 places, and the last place leads back to one of them or to none
pub record Shaped (r : Run) : Type 0 where
  pub parallel : length r.events ≡ places r
  pub some : 1 ≤ places r
  pub few : places r ≤ 3145728
  pub low : r.back ≤ places r

-- the state at place i is closed
abbrev pub Closed : (ℕ → Bool) → Run → ℕ → Type 0
Closed opened r i = (i < places r) × (opened (state_at r i) ≡ false)

-- place i is wrong: the first state is not initial, an arc is not there, or the end is none
pub data Wrong (M : System) (r : Run) (i : ℕ) : Type 0 where
  start : i ≡ 0 → (Initial M (state_at r 0) → ⊥) → Wrong M r i
  arc : i + 1 < places r → (HasArc M (state_at r i) (event_at r i) (state_at r (i + 1)) → ⊥) → Wrong M r i
  ending : i + 1 ≡ places r → (Closes M r → ⊥) → Wrong M r i

-- the state at place i is closed, or the place is wrong
abbrev pub Bad : (ℕ → Bool) → System → Run → ℕ → Type 0
Bad opened M r i = Closed opened r i ⊎ Wrong M r i

abbrev pub row : ℕ → (ℕ → Type 0) → Row
row n applies = record { number = n; layer = Session; applies = applies }

-- what is refused, in its order; at the lowest place that is closed or wrong, closed comes first
abbrev pub rows : ℕ → (ℕ → Bool) → System → List Entry → Run → ℕ → List Row
rows E opened M es r bytes =
    row 44 (Lowest (Beyond E es))
    ∷ row 50 (Fails (Shaped r))
    ∷ row 43 (λ i. Lowest (Bad opened M r) i × Closed opened r i)
    ∷ row 51 (λ i. Lowest (Bad opened M r) i × (Closed opened r i → ⊥))
    ∷ row 45 (Fails (length es * places r ≤ bytes))
    ∷ []
