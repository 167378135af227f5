use Rattle.std.proofs.Common.{◌≡◌, ℕ, ◌<◌, get_or}
use Rattle.script.specs.declared.calls.ListWord.TheVariants.{Formula}
use Rattle.script.specs.declared.calls.Word.TheVariants.{List as ListOf}
use Rattle.script.specs.Says.{spelled}
use Rattle.script.proofs.reader.known_word.Given as goal

abbrev pub invariant-loop-word : goal.invariant-loop-word
invariant-loop-word l = (k : ℕ) → k < l.word-index → l.head ≡ spelled (get_or l.words k (ListOf Formula)) → ⊥
