-- An atom is determined by its state, the event taken and the atom that follows, or by its state alone where it ends. Assumes nothing.
use Rattle.std.proofs.Common.{◌≡◌, ℕ, false, List, sym, refl, ◌∙◌, subst}
use Rattle.formula.specs.Atoms.{Atom, value}
use Rattle.formula.specs.Ltl.{Ltl, top, fact, enabled, taken, neg, or, next, until}
use Rattle.meaning.specs.declared.Arc.{Arc}
use Rattle.tableau.specs.Along.{Fits, Follows, Ends}
use Rattle.tableau.specs.Backward.{before, final}
use Rattle.tableau.specs.Claims.{Reverse, Backward, OneEnd}

module _ (w : ℕ) (xs : List Arc) where
  before_fits : (t : ℕ) (f : Ltl) (b : Atom f) → Fits w xs f (before w xs t f b)
  before_fits t top b = tt
  before_fits t (fact p) b = refl
  before_fits t (enabled u) b = refl
  before_fits t (taken u) b = tt
  before_fits t (neg f) b = before_fits t f b
  before_fits t (or f g) b = (before_fits t f b.0, before_fits t g b.1)
  before_fits t (next f) b = before_fits t f b.1
  before_fits t (until f g) b = (before_fits t f b.1, before_fits t g b.2)

  before_follows : (t : ℕ) (f : Ltl) (b : Atom f) → Follows f t (before w xs t f b) b
  before_follows t top b = tt
  before_follows t (fact p) b = tt
  before_follows t (enabled u) b = tt
  before_follows t (taken u) b = refl
  before_follows t (neg f) b = before_follows t f b
  before_follows t (or f g) b = (before_follows t f b.0, before_follows t g b.1)
  before_follows t (next f) b = (refl, before_follows t f b.1)
  before_follows t (until f g) b = (refl, before_follows t f b.1, before_follows t g b.2)

  before_is : (t : ℕ) (f : Ltl) (a b : Atom f) → Fits w xs f a → Follows f t a b → a ≡ before w xs t f b
  before_is t top a b x y = refl
  before_is t (fact p) a b x y = x
  before_is t (enabled u) a b x y = x
  before_is t (taken u) a b x y = y
  before_is t (neg f) a b x y = before_is t f a b x y
  before_is t (or f g) a b x y = λ i. (before_is t f a.0 b.0 x.0 y.0 i, before_is t g a.1 b.1 x.1 y.1 i)
  before_is t (next f) a b x y = let bit : a.0 ≡ value f b.1 = y.0 in λ i. (bit i, before_is t f a.1 b.1 x y.1 i)
  before_is t (until f g) a b x y =
      let bit : a.0 ≡ value (until f g) b = y.0 in
      λ i. (bit i, before_is t f a.1 b.1 x.0 y.1 i, before_is t g a.2 b.2 x.1 y.2 i)

  final_fits : (f : Ltl) → Fits w xs f (final w xs f)
  final_fits top = tt
  final_fits (fact p) = refl
  final_fits (enabled u) = refl
  final_fits (taken u) = tt
  final_fits (neg f) = final_fits f
  final_fits (or f g) = (final_fits f, final_fits g)
  final_fits (next f) = final_fits f
  final_fits (until f g) = (final_fits f, final_fits g)

  final_ends : (f : Ltl) → Ends f (final w xs f)
  final_ends top = tt
  final_ends (fact p) = tt
  final_ends (enabled u) = tt
  final_ends (taken u) = refl
  final_ends (neg f) = final_ends f
  final_ends (or f g) = (final_ends f, final_ends g)
  final_ends (next f) = (refl, final_ends f)
  final_ends (until f g) = (refl, final_ends f, final_ends g)

  final_is : (f : Ltl) (a : Atom f) → Fits w xs f a → Ends f a → a ≡ final w xs f
  final_is top a x y = refl
  final_is (fact p) a x y = x
  final_is (enabled u) a x y = x
  final_is (taken u) a x y = y
  final_is (neg f) a x y = final_is f a x y
  final_is (or f g) a x y = λ i. (final_is f a.0 x.0 y.0 i, final_is g a.1 x.1 y.1 i)
  final_is (next f) a x y = let bit : a.0 ≡ false = y.0 in λ i. (bit i, final_is f a.1 x y.1 i)
  final_is (until f g) a x y =
      let bit : a.0 ≡ false = y.0 in
      λ i. (bit i, final_is f a.1 x.0 y.1 i, final_is g a.2 x.1 y.2 i)

pub backward : Backward
backward w xs t f a b = (
  λ h. before_is w xs t f a b h.0 h.1,
  λ e. subst (λ z. Fits w xs f z × Follows f t z b) (sym e) (before_fits w xs t f b, before_follows w xs t f b),
)

pub one_end : OneEnd
one_end w xs f a = (
  λ h. final_is w xs f a h.0 h.1,
  λ e. subst (λ z. Fits w xs f z × Ends f z) (sym e) (final_fits w xs f, final_ends w xs f),
)

pub reverse : Reverse
reverse w xs t f a a' b x x' y y' = before_is w xs t f a b x y ∙ sym (before_is w xs t f a' b x' y')
