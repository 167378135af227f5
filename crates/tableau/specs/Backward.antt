-- The step backward as a function, which a search computes. `Backward` and `OneEnd` tie it to Along.
use Rattle.std.specs.Prelude.{ℕ, false, List, ◌==◌}
use Rattle.formula.specs.Atoms.{Atom, value, bit_of}
use Rattle.formula.specs.Ltl.{Ltl, top, fact, enabled, taken, neg, or, next, until}
use Rattle.meaning.specs.Truth.{bears}
use Rattle.meaning.specs.declared.Arc.{Arc}

-- the atom of a state with these facts and arcs, where t is taken and b follows
abbrev pub before : ℕ → List Arc → ℕ → (f : Ltl) → Atom f → Atom f
before w xs t top b = tt
before w xs t (fact p) b = bit_of w p
before w xs t (enabled u) b = bears u xs
before w xs t (taken u) b = t == u
before w xs t (neg f) b = before w xs t f b
before w xs t (or f g) b = (before w xs t f b.0, before w xs t g b.1)
before w xs t (next f) b = (value f b.1, before w xs t f b.1)
before w xs t (until f g) b = (value (until f g) b, before w xs t f b.1, before w xs t g b.2)

-- the atom of a state with these facts and arcs, where nothing is taken
abbrev pub final : ℕ → List Arc → (f : Ltl) → Atom f
final w xs top = tt
final w xs (fact p) = bit_of w p
final w xs (enabled u) = bears u xs
final w xs (taken u) = false
final w xs (neg f) = final w xs f
final w xs (or f g) = (final w xs f, final w xs g)
final w xs (next f) = (false, final w xs f)
final w xs (until f g) = (false, final w xs f, final w xs g)
