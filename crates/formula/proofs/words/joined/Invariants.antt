use Rattle.std.proofs.Common.{◌≡◌, ◌≤◌, true, length, take}
use Rattle.formula.specs.Stack.{depth, sound}
use Rattle.formula.proofs.words.joined.Given as goal

abbrev pub invariant-loop-i : goal.invariant-loop-i
invariant-loop-i l = (l.depth ≡ depth 0 (take l.i l.entries)) × (sound 0 (take l.i l.entries) ≡ true) × (l.depth ≤ l.i) × (l.i ≤ length l.entries)
