-- Which bits facts and arcs can give, entry by entry. Relies on tableau's atoms.
use Rattle.std.specs.Prelude.{◌≡◌, ℕ, ◌<◌, Bool, true, false, ◌⊎◌}
use Rattle.formula.specs.Atoms.{Atom}
use Rattle.formula.specs.Ltl.{Ltl, top, fact, enabled, taken, neg, or, next, until}
use Rattle.tableau.specs.Along.{Ends}

-- the kinds of entries whose bits a letter gives
pub data Kind : Type 0 where
  of_fact : Kind
  of_enabled : Kind
  of_taken : Kind

-- a has an entry of this kind and number with the bit x
abbrev pub Says : Kind → (f : Ltl) → Atom f → ℕ → Bool → Type 0
Says k top a n x = ⊥
Says of_fact (fact p) a n x = (p ≡ n) × (a ≡ x)
Says of_enabled (fact p) a n x = ⊥
Says of_taken (fact p) a n x = ⊥
Says of_fact (enabled p) a n x = ⊥
Says of_enabled (enabled p) a n x = (p ≡ n) × (a ≡ x)
Says of_taken (enabled p) a n x = ⊥
Says of_fact (taken p) a n x = ⊥
Says of_enabled (taken p) a n x = ⊥
Says of_taken (taken p) a n x = (p ≡ n) × (a ≡ x)
Says k (neg f) a n x = Says k f a n x
Says k (or f g) a n x = Says k f a.0 n x ⊎ Says k g a.1 n x
Says k (next f) a n x = Says k f a.1 n x
Says k (until f g) a n x = Says k f a.1 n x ⊎ Says k g a.2 n x

-- equal entries have equal bits, and what has the bit 1 is below `limit`
abbrev pub Clear : Kind → ℕ → (f : Ltl) → Atom f → Type 0
Clear k limit f a = (n : ℕ) → Says k f a n true → (n < limit) × (Says k f a n false → ⊥)

-- the bits of an atom at which t, one of E events, can be taken
pub record MoveBits (E : ℕ) (f : Ltl) (t : ℕ) (a : Atom f) : Type 0 where
  pub facts : Clear of_fact 32 f a
  pub enabled : Clear of_enabled E f a
  pub event : t < E
  pub able : Says of_enabled f a t false → ⊥
  pub only : (u : ℕ) → Says of_taken f a u true → t ≡ u
  pub goes : Says of_taken f a t false → ⊥

-- the bits of an atom at which some event can be taken
pub record SomeBits (E : ℕ) (f : Ltl) (a : Atom f) : Type 0 where
  pub facts : Clear of_fact 32 f a
  pub enabled : Clear of_enabled E f a
  pub taken : Clear of_taken E f a
  pub one : (u u' : ℕ) → Says of_taken f a u true → Says of_taken f a u' true → u ≡ u'
  pub able : (u : ℕ) → Says of_taken f a u true → Says of_enabled f a u false → ⊥
  pub spare : ((u : ℕ) → Says of_taken f a u true → ⊥) → (t : ℕ) × (t < E) × (Says of_taken f a t false → ⊥) × (Says of_enabled f a t false → ⊥)

-- the bits of an atom at which the path can end
pub record EndBits (f : Ltl) (a : Atom f) : Type 0 where
  pub facts : Clear of_fact 32 f a
  pub enabled : (u : ℕ) → Says of_enabled f a u true → ⊥
  pub ends : Ends f a
