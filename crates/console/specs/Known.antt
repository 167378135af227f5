-- The words of a script of calls on formulas. Relies on script's words.
use Rattle.std.specs.Prelude.{List, [], ◌∷◌}
use Rattle.script.specs.declared.calls.ListWord.TheVariants.{Formula}
use Rattle.script.specs.declared.calls.AloneWord.TheVariants.{Help}
use Rattle.script.specs.declared.calls.Word.{Word}
use Rattle.script.specs.declared.calls.Word.TheVariants.{List as ListOf, Text, Hex, Alone}

-- the words, each once
abbrev pub every : List Word
every = ListOf Formula ∷ Text ∷ Hex ∷ Alone Help ∷ []
