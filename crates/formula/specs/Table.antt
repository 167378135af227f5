-- Tables of formulas: each operator stands after its parts. Assumes nothing.
use Rattle.std.specs.Prelude.{ℕ, Bool, true, List, [], ◌∷◌, ◌++◌, length, sum_by, nat_lt}
use Rattle.formula.specs.Ltl.{Ltl, top, fact, enabled, taken, neg, or, next, until}
use Rattle.formula.specs.declared.entry.Entry.{Entry}
use Rattle.formula.specs.declared.entry.Entry.TheVariants.{True, Fact, Enabled, Taken, Not, Or, Next, Until}

-- the table of a formula
abbrev pub table : Ltl → List Entry
table top = True ∷ []
table (fact p) = Fact p ∷ []
table (enabled t) = Enabled t ∷ []
table (taken t) = Taken t ∷ []
table (neg f) = table f ++ Not ∷ []
table (or f g) = (table f ++ table g) ++ Or ∷ []
table (next f) = table f ++ Next ∷ []
table (until f g) = (table f ++ table g) ++ Until ∷ []

-- the tables of formulas that stand side by side, the list's first formula rightmost
abbrev pub tables : List Ltl → List Entry
tables [] = []
tables (f ∷ fs) = tables fs ++ table f

-- how many entries a formula's table has
abbrev pub size : Ltl → ℕ
size f = length (table f)

-- how many parts an entry takes
abbrev pub arity : Entry → ℕ
arity True = 0
arity (Fact p) = 0
arity (Enabled t) = 0
arity (Taken t) = 0
arity Not = 1
arity Or = 2
arity Next = 1
arity Until = 2

-- 1 of an elementary entry, else 0
abbrev pub elementary : Entry → ℕ
elementary True = 0
elementary (Fact p) = 1
elementary (Enabled t) = 1
elementary (Taken t) = 1
elementary Not = 0
elementary Or = 0
elementary Next = 1
elementary Until = 1

-- the elementary count k of a table
abbrev pub weight : List Entry → ℕ
weight es = sum_by elementary es

-- facts are below 32 and events below 64
abbrev pub ranged : Entry → Bool
ranged True = true
ranged (Fact p) = nat_lt p 32
ranged (Enabled t) = nat_lt t 64
ranged (Taken t) = nat_lt t 64
ranged Not = true
ranged Or = true
ranged Next = true
ranged Until = true
