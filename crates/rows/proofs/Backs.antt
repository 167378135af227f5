-- The place that a lent run goes back to. Assumes nothing.
use Rattle.std.proofs.Common.{ℕ, ◌<◌, ◌≤◌, None, Some, Option, arith}
use Rattle.std.specs.Option.{unwrap_or}
use Rattle.meaning.specs.Runs.{places}
use Rattle.rows.specs.Cells.{run_of}
use Rattle.rows.specs.declared.run.Run.{Run}

at_most : (back : Option ℕ) (m : ℕ) → unwrap_or back 0 < m → unwrap_or back m ≤ m
at_most None m h = omega arith
at_most (Some b) m h = omega arith

pub back_low : (r : Run) → (run_of r).back ≤ places (run_of r)
back_low r = at_most r.back (places (run_of r)) r.low
