-- Atoms: a truth for each elementary part of a formula, and what they make of the whole. Assumes nothing.
use Rattle.std.specs.Prelude.{ℕ, ◌+◌, ◌/◌, ◌%◌, ◌^◌, Bool, true, not, ◌&&◌, ◌||◌, ◌==◌}
use Rattle.formula.specs.Ltl.{Ltl, top, fact, enabled, taken, neg, or, next, until}

-- a bit for each fact, e, [t], X and U of the formula; that of a U says whether the U holds at the next place
abbrev pub Atom : Ltl → Type 0
Atom top = Unit {0}
Atom (fact p) = Bool
Atom (enabled t) = Bool
Atom (taken t) = Bool
Atom (neg f) = Atom f
Atom (or f g) = Atom f × Atom g
Atom (next f) = Bool × Atom f
Atom (until f g) = Bool × Atom f × Atom g

-- what the atom makes of the whole formula
abbrev pub value : (f : Ltl) → Atom f → Bool
value top a = true
value (fact p) a = a
value (enabled t) a = a
value (taken t) a = a
value (neg f) a = not (value f a)
value (or f g) a = value f a.0 || value g a.1
value (next f) a = a.0
value (until f g) a = value g a.2 || (value f a.1 && a.0)

-- how many bits an atom has
abbrev pub width : Ltl → ℕ
width top = 0
width (fact p) = 1
width (enabled t) = 1
width (taken t) = 1
width (neg f) = width f
width (or f g) = width f + width g
width (next f) = width f + 1
width (until f g) = width f + width g + 1

abbrev pub bit_of : ℕ → ℕ → Bool
bit_of n i = (n / 2 ^ i) % 2 == 1

-- the atom whose bits stand in n from place o on, those of the parts before those of the whole
abbrev pub atom : (f : Ltl) → ℕ → ℕ → Atom f
atom top o n = tt
atom (fact p) o n = bit_of n o
atom (enabled t) o n = bit_of n o
atom (taken t) o n = bit_of n o
atom (neg f) o n = atom f o n
atom (or f g) o n = (atom f o n, atom g (o + width f) n)
atom (next f) o n = (bit_of n (o + width f), atom f o n)
atom (until f g) o n = (bit_of n (o + width f + width g), atom f o n, atom g (o + width f) n)
