-- The words of a script of calls on formulas and plants. Relies on script's words.
use Rattle.std.specs.Prelude.{List, [], ◌∷◌}
use Rattle.script.specs.declared.calls.ListWord.TheVariants.{Formula, Table, Rule}
use Rattle.script.specs.declared.calls.AloneWord.TheVariants.{Ask, Help}
use Rattle.script.specs.declared.calls.OneWord.TheVariants.{Initial, Facts, Arcs}
use Rattle.script.specs.declared.calls.Word.{Word}
use Rattle.script.specs.declared.calls.Word.TheVariants.{List as ListOf, Text, Hex, Alone, One, Arc}

-- the words, each once
abbrev pub every : List Word
every = ListOf Formula ∷ Text ∷ Hex ∷ ListOf Table ∷ ListOf Rule ∷ Alone Ask ∷ One Initial ∷ One Facts ∷ One Arcs ∷ Arc ∷ Alone Help ∷ []
