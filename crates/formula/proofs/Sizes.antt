-- How many entries belong to the formula that ends at an entry. Assumes nothing.
use Rattle.std.proofs.Common.{◌≡◌, ℕ, ◌+◌, ◌-◌, ◌<◌, ◌≤◌, true, ◌⊎◌, List, [], ◌∷◌, ◌++◌, length, get_or, refl, ap, ◌∙◌, ⊎_elim, arith, length-append}
use Rattle.formula.specs.Ltl.{Ltl, top, fact, enabled, taken, neg, or, next, until}
use Rattle.formula.specs.Table.{table, size}
use Rattle.formula.specs.Stack.{sound, sub, push}
use Rattle.formula.specs.declared.entry.Entry.{Entry}
use Rattle.formula.specs.declared.entry.Entry.TheVariants.{True, Fact, Enabled, Taken, Not, Or, Next, Until}
use Rattle.formula.proofs.Parts.{One, Two, first_end, with_none, with_one, with_two}

-- one part's size, and the whole's
pub record Sized1 (es : List Entry) (i : ℕ) : Type 0 where
  pub some : 1 ≤ i
  pub fits : size (sub es (i - 1)) ≤ i
  pub is : size (sub es i) ≡ size (sub es (i - 1)) + 1

-- two parts' sizes, and the whole's
pub record Sized2 (es : List Entry) (i : ℕ) : Type 0 where
  pub some : 1 ≤ i
  pub room : size (sub es (i - 1)) + 1 ≤ i
  pub fits : size (sub es (first_end es i)) + size (sub es (i - 1)) ≤ i
  pub is : size (sub es i) ≡ size (sub es (first_end es i)) + size (sub es (i - 1)) + 1

module _ (es : List Entry) (h : sound 0 es ≡ true) (i : ℕ) (within : i < length es) where
  pub size_leaf : (get_or es i True ≡ True) ⊎ ((x : ℕ) × (get_or es i True ≡ Fact x)) ⊎ ((x : ℕ) × (get_or es i True ≡ Enabled x)) ⊎ ((x : ℕ) × (get_or es i True ≡ Taken x)) → 1 ≡ size (sub es i)
  size_leaf =
      ⊎_elim (λ e. leaf True e top (λ s. refl) refl)
      (⊎_elim (λ e. leaf (Fact e.0) e.1 (fact e.0) (λ s. refl) refl)
      (⊎_elim (λ e. leaf (Enabled e.0) e.1 (enabled e.0) (λ s. refl) refl) (λ e. leaf (Taken e.0) e.1 (taken e.0) (λ s. refl) refl)))
    where
      leaf : (e : Entry) → get_or es i True ≡ e → (f : Ltl) → ((s : List Ltl) → push e s ≡ f ∷ s) → size f ≡ 1 → 1 ≡ size (sub es i)
      leaf e eq f steps one = omega (arith, ap size (with_none es h i within e eq f steps))

  pub size_one : (get_or es i True ≡ Not) ⊎ (get_or es i True ≡ Next) → Sized1 es i
  size_one =
      ⊎_elim
      (λ e. made (with_one es h i within Not e neg refl (λ f s. refl)) (λ f. length-append (table f) (Not ∷ [])))
      (λ e. made (with_one es h i within Next e next refl (λ f s. refl)) (λ f. length-append (table f) (Next ∷ [])))
    where
      made : {op : Ltl → Ltl} → One es i op → ((f : Ltl) → size (op f) ≡ size f + 1) → Sized1 es i
      made o len = record { some = o.some; fits = o.fits; is = ap size o.is ∙ len (sub es (i - 1)) }

  pub size_two : (get_or es i True ≡ Or) ⊎ (get_or es i True ≡ Until) → Sized2 es i
  size_two =
      ⊎_elim
      (λ e. made (with_two es h i within Or e or refl (λ f g s. refl)) (λ f g. length-append (table f ++ table g) (Or ∷ []) ∙ ap (λ n. n + 1) (length-append (table f) (table g))))
      (λ e. made (with_two es h i within Until e until refl (λ f g s. refl)) (λ f g. length-append (table f ++ table g) (Until ∷ []) ∙ ap (λ n. n + 1) (length-append (table f) (table g))))
    where
      made : {op : Ltl → Ltl → Ltl} → Two es i op → ((f g : Ltl) → size (op f g) ≡ size f + size g + 1) → Sized2 es i
      made o len = record { some = o.some; room = o.room; fits = o.fits; is = ap size o.is ∙ len (sub es (first_end es i)) (sub es (i - 1)) }
