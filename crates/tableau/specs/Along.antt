-- Atoms along a path: how they fit states, follow one another along arcs, end at deadlocks, and are fair. Relies on formula's atoms.
use Rattle.std.specs.Prelude.{◌≡◌, ℕ, suc, ◌+◌, ◌-◌, ◌<◌, ◌≤◌, Bool, true, false, cond, not, ◌||◌, List, ◌==◌, nat_lt}
use Rattle.formula.specs.Atoms.{Atom, value, bit_of}
use Rattle.formula.specs.Ltl.{Ltl, top, fact, enabled, taken, neg, or, next, until}
use Rattle.meaning.specs.Paths.{Within, Path}
use Rattle.meaning.specs.Systems.{System}
use Rattle.meaning.specs.Truth.{bears}
use Rattle.meaning.specs.declared.Arc.{Arc}

-- the fact and e bits are those of a state with these facts and arcs
abbrev pub Fits : ℕ → List Arc → (f : Ltl) → Atom f → Type 0
Fits w xs top a = Unit {0}
Fits w xs (fact p) a = a ≡ bit_of w p
Fits w xs (enabled t) a = a ≡ bears t xs
Fits w xs (taken t) a = Unit {0}
Fits w xs (neg f) a = Fits w xs f a
Fits w xs (or f g) a = Fits w xs f a.0 × Fits w xs g a.1
Fits w xs (next f) a = Fits w xs f a.1
Fits w xs (until f g) a = Fits w xs f a.1 × Fits w xs g a.2

-- b may follow a along an arc that bears t
abbrev pub Follows : (f : Ltl) → ℕ → Atom f → Atom f → Type 0
Follows top t a b = Unit {0}
Follows (fact p) t a b = Unit {0}
Follows (enabled u) t a b = Unit {0}
Follows (taken u) t a b = a ≡ (t == u)
Follows (neg f) t a b = Follows f t a b
Follows (or f g) t a b = Follows f t a.0 b.0 × Follows g t a.1 b.1
Follows (next f) t a b = (a.0 ≡ value f b.1) × Follows f t a.1 b.1
Follows (until f g) t a b = (a.0 ≡ value (until f g) b) × Follows f t a.1 b.1 × Follows g t a.2 b.2

-- a is an atom of a place where no arc is taken
abbrev pub Ends : (f : Ltl) → Atom f → Type 0
Ends top a = Unit {0}
Ends (fact p) a = Unit {0}
Ends (enabled t) a = Unit {0}
Ends (taken t) a = a ≡ false
Ends (neg f) a = Ends f a
Ends (or f g) a = Ends f a.0 × Ends g a.1
Ends (next f) a = (a.0 ≡ false) × Ends f a.1
Ends (until f g) a = (a.0 ≡ false) × Ends f a.1 × Ends g a.2

-- how many U's the formula has
abbrev pub untils : Ltl → ℕ
untils top = 0
untils (fact p) = 0
untils (enabled t) = 0
untils (taken t) = 0
untils (neg f) = untils f
untils (or f g) = untils f + untils g
untils (next f) = untils f
untils (until f g) = untils f + untils g + 1

-- the j-th U, those of the parts before the whole, is false or at its goal
abbrev pub meets : (f : Ltl) → ℕ → Atom f → Bool
meets top j a = false
meets (fact p) j a = false
meets (enabled t) j a = false
meets (taken t) j a = false
meets (neg f) j a = meets f j a
meets (or f g) j a = cond (nat_lt j (untils f)) (meets f j a.0) (meets g (j - untils f) a.1)
meets (next f) j a = meets f j a.1
meets (until f g) j a =
    cond (nat_lt j (untils f)) (meets f j a.1)
    (cond (nat_lt j (untils f + untils g)) (meets g (j - untils f) a.2) (not (value (until f g) a) || value g a.2))

-- along a sequence of atoms, each U is again and again false or at its goal
abbrev pub Fair : (f : Ltl) → (ℕ → Atom f) → Type 0
Fair f a = (j : ℕ) → j < untils f → (i : ℕ) → (k : ℕ) × (i ≤ k) × (meets f j (a k) ≡ true)

-- atoms along a path: each fits its state and is followed along its event, the last one ends, and an endless sequence is fair
pub record Along (M : System) (π : Path) (f : Ltl) (a : ℕ → Atom f) : Type 0 where
  pub fits : (i : ℕ) → Within π.len i → Fits (M.facts (π.state i)) (M.arcs (π.state i)) f (a i)
  pub follows : (i : ℕ) → Within π.len (suc i) → Follows f (π.event i) (a i) (a (suc i))
  pub stops : (i : ℕ) → Within π.len i → (Within π.len (suc i) → ⊥) → Ends f (a i)
  pub fair : ((i : ℕ) → Within π.len i) → Fair f a
