use Rattle.std.proofs.Common.{◌≡◌, ℕ, ◌<◌, get_or}
use Rattle.meaning.specs.Systems.{no_arc}
use Rattle.rows.proofs.cells.enabled.Given as goal

abbrev pub invariant-loop-arc : goal.invariant-loop-arc
invariant-loop-arc l = (k : ℕ) → k < l.arc-index → (get_or l.arcs k no_arc).event ≡ l.event → ⊥
