use Rattle.std.proofs.Common.{◌≡◌, ℕ, ◌<◌}
use Rattle.plant.specs.Model.{initial_at}
use Rattle.runs.proofs.faults.Known.is_initial.Given as goal

abbrev pub invariant-loop-i : goal.invariant-loop-i
invariant-loop-i g l = (j : ℕ) → j < l.i → initial_at (g.P.Plant.model l.self.plant.now) j ≡ l.state → ⊥
