use Rattle.std.proofs.Common.{◌≡◌, ℕ, ◌<◌, take, sum}
use Rattle.plant.specs.Model.{Distinct}
use Rattle.table.specs.Words.{counts, arcs_of}
use Rattle.table.proofs.sections.Sections.repeated.Given as goal

abbrev pub invariant-loop-count : goal.invariant-loop-count
invariant-loop-count l =
    (l.from ≡ sum (take l.count-index (counts l.self.words.now)))
    × ((r : ℕ) → r < l.count-index → Distinct (arcs_of l.self.words.now r))
