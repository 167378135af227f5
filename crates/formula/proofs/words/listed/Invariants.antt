use Rattle.std.proofs.Common.{◌≡◌, ℕ, ◌<◌, length, get_or}
use Rattle.formula.specs.declared.entry.Entry.TheVariants.{True}
use Rattle.formula.specs.Words.{Says}
use Rattle.formula.proofs.words.listed.Given as goal

abbrev pub invariant-loop-i : goal.invariant-loop-i
invariant-loop-i l = (length l.entries ≡ 48) × ((j : ℕ) → j < l.i → Says l.words j (get_or l.entries j True))
