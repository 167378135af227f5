-- What is printed of an arc. Assumes nothing.
use Rattle.std.specs.Prelude.{ℕ, List, ◌++◌, codes, decimal}
use Rattle.meaning.specs.declared.Arc.{Arc}

-- an arc's event and target
abbrev pub arc_line : Arc → List ℕ
arc_line a = decimal a.event ++ (codes " " ++ decimal a.target)
