-- One place of a row, from the rows of an entry's parts. Relies on meaning.
use Rattle.std.specs.Prelude.{◌≡◌, ℕ, ◌-◌, ◌≤◌, List, Bool, true, false, not, ◌&&◌, ◌||◌, length, ◌==◌}
use Rattle.std.specs.Option.{unwrap_or}
use Rattle.formula.specs.Atoms.{bit_of}
use Rattle.formula.specs.declared.entry.Entry.{Entry}
use Rattle.formula.specs.declared.entry.Entry.TheVariants.{True, Fact, Enabled, Taken, Not, Or, Next, Until}
use Rattle.meaning.specs.Systems.{System}
use Rattle.meaning.specs.Runs.{Run, places, state_at, event_at, after}
use Rattle.meaning.specs.Truth.{bears, goes, sweep}
use Rattle.rows.specs.declared.run.Run.{Run as LentRun}

-- what a lent run stands for; the place after its last one is written as the number of places where there is none
abbrev pub run_of : LentRun → Run
run_of r = record { states = r.states.now; events = r.events.now; back = unwrap_or r.back (length r.states.now) }

-- two arrays and a number are the writing of a run: some places, and one of them or their number
pub record Written (states events : List ℕ) (back : ℕ) : Type 0 where
  pub some : 1 ≤ length states
  pub parallel : length events ≡ length states
  pub low : back ≤ length states

-- an entry at a place, where the rows of its parts say F and G
abbrev pub cell : System → Run → Entry → (ℕ → Bool) → (ℕ → Bool) → ℕ → Bool
cell M r True F G p = true
cell M r (Fact q) F G p = bit_of (M.facts (state_at r p)) q
cell M r (Enabled t) F G p = bears t (M.arcs (state_at r p))
cell M r (Taken t) F G p = goes r p && event_at r p == t
cell M r Not F G p = not (G p)
cell M r Or F G p = F p || G p
cell M r Next F G p = goes r p && G (after r p)
cell M r Until F G p = sweep F G (sweep F G false (places r - r.back) r.back) (places r - p) p
