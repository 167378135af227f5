-- What this crate proves. Relies on all other definitions.
use Rattle.std.specs.Prelude.{◌≡◌, ℕ, ◌^◌, ◌<◌, Bool, false, ◌↔◌, List, Decides}
use Rattle.formula.specs.Atoms.{Atom, value, width, atom}
use Rattle.formula.specs.Ltl.{Ltl}
use Rattle.meaning.specs.Paths.{Within, Path, Holds}
use Rattle.meaning.specs.Runs.{Run, places, IsRun, place, unroll, Violates}
use Rattle.meaning.specs.Systems.{System}
use Rattle.meaning.specs.declared.Arc.{Arc}
use Rattle.tableau.specs.Along.{Fits, Follows, Ends, Along}
use Rattle.tableau.specs.Backward.{before, final}
use Rattle.tableau.specs.Lassos.{truths, Lasso}
use Rattle.tableau.specs.Numbers.{Lists, OpenNumberStart, OpenNumberDoubt, NumberLasso}
use Rattle.tableau.specs.Opens.{OverOpen, OpenViolated, OpenStart, OpenDoubt, NodeLasso, ReadsOff}

-- along a path whose atoms step rightly, what an atom makes of the formula is its truth
abbrev pub Coherence : Type 0
Coherence = (M : System) (π : Path) (f : Ltl) (a : ℕ → Atom f) → Along M π f a → (i : ℕ) → Within π.len i → Decides (value f (a i)) (Holds M π i f)

-- the truths at the places of a run are such atoms
abbrev pub Existence : Type 0
Existence = (M : System) (r : Run) (f : Ltl) → 0 < places r → Along M (unroll r) f (λ i. truths M r f (place r i))

-- an atom is determined by its state, the event taken and the atom that follows
abbrev pub Reverse : Type 0
Reverse = (w : ℕ) (xs : List Arc) (t : ℕ) (f : Ltl) (a a' b : Atom f) → Fits w xs f a → Fits w xs f a' → Follows f t a b → Follows f t a' b → a ≡ a'

-- it is computed from them
abbrev pub Backward : Type 0
Backward = (w : ℕ) (xs : List Arc) (t : ℕ) (f : Ltl) (a b : Atom f) → (Fits w xs f a × Follows f t a b) ↔ (a ≡ before w xs t f b)

-- and so is the one atom of a state where nothing is taken
abbrev pub OneEnd : Type 0
OneEnd = (w : ℕ) (xs : List Arc) (f : Ltl) (a : Atom f) → (Fits w xs f a × Ends f a) ↔ (a ≡ final w xs f)

-- every atom has a number below 2 ^ width
abbrev pub Coded : Type 0
Coded = (f : Ltl) (a : Atom f) → (n : ℕ) × (n < 2 ^ width f) × (atom f 0 n ≡ a)

-- and only one
abbrev pub OneCode : Type 0
OneCode = (f : Ltl) (m n : ℕ) → m < 2 ^ width f → n < 2 ^ width f → atom f 0 m ≡ atom f 0 n → m ≡ n

-- a run violates the formula exactly where atoms at its places, place by place, make a lasso whose first atom makes the formula false
abbrev pub RunPart : Type 0
RunPart = (M : System) (r : Run) (f : Ltl) → IsRun M r → Violates M r f ↔ ((v : ℕ → Atom f) × Lasso M r f v × (value f (v 0) ≡ false))

-- some run over open states alone violates the formula exactly where some start of the open part leads to a stuck node or to a fair round
abbrev pub OpenPart : Type 0
OpenPart = (M : System) (opened : ℕ → Bool) (f : Ltl) → OpenViolated M opened f ↔ OpenDoubt M opened f

-- and from a lasso of nodes that begins at a start the run is read off, place by place
abbrev pub ReadOff : Type 0
ReadOff = (M : System) (opened : ℕ → Bool) (f : Ltl) (m b : ℕ) (x : ℕ → ℕ × Atom f) → OpenStart M opened f (x 0) → NodeLasso M opened f m b x → (r : Run) × ReadsOff f m b x r × IsRun M r × OverOpen opened r × Violates M r f

-- the same of the graph of numbers
abbrev pub OpenNumbers : Type 0
OpenNumbers = (M : System) (opened : ℕ → Bool) (book : List ℕ) (f : Ltl) → Lists book opened → OpenDoubt M opened f ↔ OpenNumberDoubt M book f

-- and a run with a lasso of numbers at its places, the first of them a start, is a violating run over open states alone
abbrev pub NumbersRun : Type 0
NumbersRun = (M : System) (opened : ℕ → Bool) (book : List ℕ) (f : Ltl) → Lists book opened → (r : Run) (n : ℕ → ℕ) → NumberLasso M book f r n → OpenNumberStart M book f (n 0) → IsRun M r × OverOpen opened r × Violates M r f
