use Rattle.std.proofs.Common.{◌≡◌, length, map, take}
use Rattle.rule.specs.Read.{value_in}
use Rattle.rule.proofs.words.values.Given as goal

abbrev pub invariant-loop-j : goal.invariant-loop-j
invariant-loop-j l = (length l.values ≡ 8) × (take l.j l.values ≡ map value_in (take l.j l.words))
