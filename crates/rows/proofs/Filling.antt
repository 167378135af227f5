-- The rows of a formula's entries, where the entries are lent by the formula. Assumes nothing.
use Rattle.std.proofs.Common.{◌≡◌, ℕ, ◌+◌, ◌-◌, ◌*◌, ◌<◌, ◌≤◌, Bool, ◌⊎◌, List, length, get_or, ap, ◌∙◌, subst, ⊎_elim, arith}
use Rattle.formula.specs.Stack.{sub}
use Rattle.formula.specs.Table.{arity, size}
use Rattle.formula.specs.View.{entries_of}
use Rattle.formula.specs.declared.entry.Entry.{Entry}
use Rattle.formula.specs.declared.entry.Entry.TheVariants.{True, Fact, Enabled, Taken, Not, Or, Next, Until}
use Rattle.formula.specs.declared.formula.Formula.{Formula}
use Rattle.formula.proofs.Sizes.{size_leaf, size_one, size_two}
use Rattle.formula.proofs.Views.{view_sound}
use Rattle.meaning.specs.Systems.{System}
use Rattle.meaning.specs.Runs.{Run, places}
use Rattle.meaning.specs.Truth.{truth}
use Rattle.rows.specs.Cells.{cell}
use Rattle.rows.specs.Rows.{Stand}
use Rattle.rows.proofs.Fits.{Fit1, Fit2, fit_one, fit_two, leaf_is, one_is, two_is}

-- an entry with no part, with one, with two
abbrev pub Leaf : Entry → Type 0
Leaf e = (e ≡ True) ⊎ ((x : ℕ) × (e ≡ Fact x)) ⊎ ((x : ℕ) × (e ≡ Enabled x)) ⊎ ((x : ℕ) × (e ≡ Taken x))

abbrev pub Unary : Entry → Type 0
Unary e = (e ≡ Not) ⊎ (e ≡ Next)

abbrev pub Binary : Entry → Type 0
Binary e = (e ≡ Or) ⊎ (e ≡ Until)

leaf_arity : (e : Entry) → Leaf e → arity e ≡ 0
leaf_arity e l = ⊎_elim (λ q. ap arity q) (⊎_elim (λ q. ap arity q.1) (⊎_elim (λ q. ap arity q.1) (λ q. ap arity q.1))) l

unary_arity : (e : Entry) → Unary e → arity e ≡ 1
unary_arity e l = ⊎_elim (λ q. ap arity q) (λ q. ap arity q) l

pub leaf_stands : (e : Entry) → Leaf e → (first last m out : ℕ) → Stand e first last m out
leaf_stands e l first last m out = let z = leaf_arity e l in record { one = λ h. absurd (omega arith); two = λ h. absurd (omega arith) }

pub unary_stands : (e : Entry) → Unary e → (first last m out : ℕ) → last + m ≤ out → Stand e first last m out
unary_stands e l first last m out h = let z = unary_arity e l in record { one = λ _. h; two = λ k. absurd (omega arith) }

pub binary_stands : (e : Entry) (first last m out : ℕ) → first + m ≤ out → last + m ≤ out → Stand e first last m out
binary_stands e first last m out h k = record { one = λ _. k; two = λ _. h }

-- the entries es are those of the formula f, and entry i is one of them
module _ (f : Formula) (es : List Entry) (eq : es ≡ entries_of f) (i : ℕ) (within : i < length (entries_of f)) where
  pub leaf_size : Leaf (get_or es i True) → 1 ≡ size (sub (entries_of f) i)
  leaf_size l = size_leaf (entries_of f) (view_sound f) i within (subst (λ es. Leaf (get_or es i True)) eq l)

  pub one_fits : {m out : ℕ} → Unary (get_or es i True) → size (sub (entries_of f) i) * m ≤ out + m → Fit1 (entries_of f) i m out
  one_fits {m} {out} l h = fit_one (entries_of f) i m out (size_one (entries_of f) (view_sound f) i within (subst (λ es. Unary (get_or es i True)) eq l)) h

  pub two_some : Binary (get_or es i True) → 1 ≤ i
  two_some l = (size_two (entries_of f) (view_sound f) i within (subst (λ es. Binary (get_or es i True)) eq l)).some

  pub two_fits : {m out : ℕ} (skip : ℕ) → Binary (get_or es i True) → skip ≡ size (sub (entries_of f) (i - 1)) → size (sub (entries_of f) i) * m ≤ out + m → Fit2 (entries_of f) i m out skip
  two_fits {m} {out} skip l s h = fit_two (entries_of f) i m out skip (size_two (entries_of f) (view_sound f) i within (subst (λ es. Binary (get_or es i True)) eq l)) s h

  module _ (M : System) (r : Run) (low : r.back ≤ places r) where
    same_entry : (F G : ℕ → Bool) (p : ℕ) → cell M r (get_or es i True) F G p ≡ cell M r (get_or (entries_of f) i True) F G p
    same_entry F G p = ap (λ l. cell M r (get_or l i True) F G p) eq

    pub leaf_row : Leaf (get_or es i True) → (F G : ℕ → Bool) (p : ℕ) → cell M r (get_or es i True) F G p ≡ truth M r (sub (entries_of f) i) p
    leaf_row l F G p = same_entry F G p ∙ leaf_is M r low (entries_of f) (view_sound f) i within (subst (λ es. Leaf (get_or es i True)) eq l) F G p

    pub one_row : Unary (get_or es i True) → (F G : ℕ → Bool) → ((q : ℕ) → q < places r → F q ≡ truth M r (sub (entries_of f) (i - 1)) q) → ((q : ℕ) → q < places r → G q ≡ truth M r (sub (entries_of f) (i - 1)) q) → (p : ℕ) → p < places r → cell M r (get_or es i True) F G p ≡ truth M r (sub (entries_of f) i) p
    one_row l F G a b p lt = same_entry F G p ∙ one_is M r low (entries_of f) (view_sound f) i within (subst (λ es. Unary (get_or es i True)) eq l) F G a b p lt

    pub two_row : Binary (get_or es i True) → (skip : ℕ) → skip ≡ size (sub (entries_of f) (i - 1)) → (F G : ℕ → Bool) → ((q : ℕ) → q < places r → F q ≡ truth M r (sub (entries_of f) (i - 1 - skip)) q) → ((q : ℕ) → q < places r → G q ≡ truth M r (sub (entries_of f) (i - 1)) q) → (p : ℕ) → p < places r → cell M r (get_or es i True) F G p ≡ truth M r (sub (entries_of f) i) p
    two_row l skip s F G a b p lt = same_entry F G p ∙ two_is M r low (entries_of f) (view_sound f) i within (subst (λ es. Binary (get_or es i True)) eq l) skip s F G a b p lt
