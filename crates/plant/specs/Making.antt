-- What making a plant comes to. Relies on refusal's tables of refusals.
use Rattle.std.specs.Prelude.{List}
use Rattle.refusal.specs.Rows.{Row, Clear, First}
use Rattle.plant.specs.declared.Failure.{Failure}
use Rattle.plant.specs.declared.Failure.TheVariants.{Refused, OutOfMemory}

-- why no plant was made: the first row that applies, or want of memory where none does
abbrev pub Failed : List Row → Failure → Type 0
Failed rows (Refused r) = First rows r
Failed rows OutOfMemory = Clear rows
