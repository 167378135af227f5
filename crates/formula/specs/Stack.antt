-- Reading a table from left to right with a stack of formulas, the latest first. Assumes nothing.
use Rattle.std.specs.Prelude.{ℕ, ◌+◌, ◌-◌, Bool, true, ◌&&◌, List, [], ◌∷◌, take, fold, nat_le}
use Rattle.formula.specs.Ltl.{Ltl, top, fact, enabled, taken, neg, or, next, until}
use Rattle.formula.specs.Table.{arity, ranged}
use Rattle.formula.specs.declared.entry.Entry.{Entry}
use Rattle.formula.specs.declared.entry.Entry.TheVariants.{True, Fact, Enabled, Taken, Not, Or, Next, Until}

-- how many formulas stand side by side after the entries, from d on
abbrev pub depth : ℕ → List Entry → ℕ
depth d es = fold (λ n e. n - arity e + 1) d es

-- no operator lacks a part
abbrev pub sound : ℕ → List Entry → Bool
sound d [] = true
sound d (e ∷ es) = nat_le (arity e) d && sound (d - arity e + 1) es

-- every entry is in range
abbrev pub in_range : List Entry → Bool
in_range [] = true
in_range (e ∷ es) = ranged e && in_range es

-- an entry takes its parts from the stack and is put there in their place
abbrev pub push : Entry → List Ltl → List Ltl
push True s = top ∷ s
push (Fact p) s = fact p ∷ s
push (Enabled t) s = enabled t ∷ s
push (Taken t) s = taken t ∷ s
push Not [] = []
push Not (f ∷ s) = neg f ∷ s
push Or [] = []
push Or (g ∷ []) = []
push Or (g ∷ f ∷ s) = or f g ∷ s
push Next [] = []
push Next (f ∷ s) = next f ∷ s
push Until [] = []
push Until (g ∷ []) = []
push Until (g ∷ f ∷ s) = until f g ∷ s

-- the stack after the entries
abbrev pub stack : List Ltl → List Entry → List Ltl
stack s es = fold (λ l e. push e l) s es

-- what is on top of a stack
abbrev pub latest : List Ltl → Ltl
latest [] = top
latest (f ∷ s) = f

-- the formula of a table
abbrev pub tree : List Entry → Ltl
tree es = latest (stack [] es)

-- the formula that ends at entry i
abbrev pub sub : List Entry → ℕ → Ltl
sub es i = tree (take (i + 1) es)
