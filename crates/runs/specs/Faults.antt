-- What the checks of a run answer. Relies on Tests.
use Rattle.std.specs.Prelude.{◌≡◌, ℕ, ◌<◌, Bool, ◌⊎◌, List, length, slice_index_or}
use Rattle.refusal.specs.declared.Layer.TheVariants.{Session}
use Rattle.refusal.specs.declared.Refusal.{Refusal}
use Rattle.refusal.specs.Causes.{Gives}
use Rattle.meaning.specs.declared.Arc.{Arc}
use Rattle.meaning.specs.Systems.{System, no_arc}
use Rattle.meaning.specs.Runs.{Run, places, state_at, event_at, after}
use Rattle.runs.specs.Tests.{Closed, Wrong}

-- some arc bears t and leads to s
abbrev pub Bears : List Arc → ℕ → ℕ → Type 0
Bears arcs t s = (j : ℕ) × (j < length arcs) × (slice_index_or arcs j no_arc ≡ record { event = t; target = s })

-- place i goes on along one of the arcs, or ends where there are none
abbrev pub GoesOn : List Arc → Run → ℕ → Type 0
GoesOn arcs r i =
    ((after r i < places r) × Bears arcs (event_at r i) (state_at r (after r i)))
    ⊎ ((after r i ≡ places r) × (length arcs ≡ 0) × (event_at r i ≡ 64))

-- the refusal of place i: its state is closed, or it is open and the place is wrong
abbrev pub Faulty : (ℕ → Bool) → System → Run → ℕ → Refusal → Type 0
Faulty opened M r i e =
    (Closed opened r i × Gives e 43 Session i) ⊎ ((Closed opened r i → ⊥) × Wrong M r i × Gives e 51 Session i)
