-- What a formula's struct stands for. Assumes nothing.
use Rattle.std.specs.Prelude.{List, take}
use Rattle.formula.specs.Ltl.{Ltl}
use Rattle.formula.specs.Stack.{tree}
use Rattle.formula.specs.declared.entry.Entry.{Entry}
use Rattle.formula.specs.declared.formula.Formula.{Formula}

-- its entries
abbrev pub entries_of : Formula → List Entry
entries_of f = take f.len f.entries

-- its tree
abbrev pub tree_of : Formula → Ltl
tree_of f = tree (entries_of f)
