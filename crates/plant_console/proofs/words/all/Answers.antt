use Rattle.std.proofs.Common.{◌≡◌, refl, arith}
use Rattle.std.specs.List.{Contains}
use Rattle.script.specs.declared.calls.ListWord.TheVariants.{Formula, Table, Rule}
use Rattle.script.specs.declared.calls.AloneWord.TheVariants.{Ask, Help}
use Rattle.script.specs.declared.calls.OneWord.TheVariants.{Initial, Facts, Arcs}
use Rattle.script.specs.declared.calls.Word.{Word}
use Rattle.script.specs.declared.calls.Word.TheVariants.{List as ListOf, Text, Hex, Alone, One, Arc}
use Rattle.plant_console.specs.Known.{every}
use Rattle.plant_console.proofs.words.all.Goals as goal

-- each word has its place among all
place : (w : Word) → Contains every w
place (ListOf Formula) = (0, omega arith, refl)
place Text = (1, omega arith, refl)
place Hex = (2, omega arith, refl)
place (ListOf Table) = (3, omega arith, refl)
place (ListOf Rule) = (4, omega arith, refl)
place (Alone Ask) = (5, omega arith, refl)
place (One Initial) = (6, omega arith, refl)
place (One Facts) = (7, omega arith, refl)
place (One Arcs) = (8, omega arith, refl)
place Arc = (9, omega arith, refl)
place (Alone Help) = (10, omega arith, refl)

pub returns-clause-whole : goal.returns-clause-whole
returns-clause-whole c = place
