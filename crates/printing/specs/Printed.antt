-- What is printed of formulas and plants. Relies on formula's tables and plant's models.
use Rattle.std.specs.Prelude.{ℕ, List, ◌∷◌, ◌++◌, map, length, codes, decimal}
use Rattle.std.specs.List.{flat_map}
use Rattle.formula.specs.declared.entry.Entry.{Entry}
use Rattle.formula.specs.Table.{weight}
use Rattle.formula.specs.Words.{kind_of, argument_of}
use Rattle.plant.specs.Model.{Model}

-- numbers in base ten, a space before each
abbrev pub spaced_out : List ℕ → List ℕ
spaced_out ns = flat_map (λ n. 32 ∷ decimal n) ns

-- what is printed of a table that is granted
abbrev pub accepted_line : List Entry → List ℕ
accepted_line es = codes "ok k " ++ decimal (weight es)

-- the words of a table: how many entries, their kinds, and their arguments
abbrev pub words_of_table : List Entry → List ℕ
words_of_table es = length es ∷ (map kind_of es ++ map argument_of es)

-- what is printed of a text that is granted
abbrev pub table_line : List Entry → List ℕ
table_line es = (accepted_line es ++ codes " words") ++ spaced_out (words_of_table es)

-- what a plant is asked as a whole: how many events, the extent, the width, and how many initial states
abbrev pub asked_line : Model → List ℕ
asked_line m =
    codes "E " ++ (decimal m.events ++ (codes " extent " ++ (decimal m.extent ++ (codes " width " ++ (decimal m.width ++ (codes " initials " ++ decimal (length m.system.initial)))))))
