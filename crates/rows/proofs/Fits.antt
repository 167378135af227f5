-- Where the rows of a formula's entries stand. Assumes nothing.
use Rattle.std.proofs.Common.{◌≡◌, ℕ, ◌+◌, ◌-◌, ◌*◌, ◌<◌, ◌≤◌, Bool, true, ◌⊎◌, List, length, get_or, sym, refl, ap, ◌∙◌, ⊎_elim, add-mul, one-mul, arith}
use Rattle.formula.specs.Ltl.{Ltl, neg, next, or, until}
use Rattle.meaning.specs.Systems.{System}
use Rattle.meaning.specs.Runs.{Run, places}
use Rattle.meaning.specs.Truth.{truth}
use Rattle.formula.specs.declared.entry.Entry.{Entry}
use Rattle.formula.specs.declared.entry.Entry.TheVariants.{True, Fact, Enabled, Taken, Not, Or, Next, Until}
use Rattle.formula.specs.Stack.{sound, sub}
use Rattle.formula.specs.Table.{size}
use Rattle.formula.proofs.Parts.{some_size, with_one, with_two, at_entry}
use Rattle.formula.proofs.Sizes.{Sized1, Sized2}
use Rattle.rows.specs.Cells.{cell}
use Rattle.rows.proofs.Turns.{cell_same}

-- m times the sum of a formula's parts and 1
product : (a m : ℕ) → (a + 1) * m ≡ a * m + m
product a m = add-mul a 1 m ∙ ap (λ n. a * m + n) (one-mul m)

at_least : (f : Ltl) (m : ℕ) → m ≤ size f * m
at_least f m = let n : size f ≡ size f - 1 + 1 = omega (arith, some_size f) in omega (arith, ap (λ k. k * m) n, product (size f - 1) m)

pub record Fit1 (es : List Entry) (i m out : ℕ) : Type 0 where
  pub some : 1 ≤ i
  pub high : m ≤ out
  pub all : size (sub es i) * m ≡ size (sub es (i - 1)) * m + m
  pub low : size (sub es (i - 1)) * m ≤ out

pub fit_one : (es : List Entry) (i m out : ℕ) → Sized1 es i → size (sub es i) * m ≤ out + m → Fit1 es i m out
fit_one es i m out s h =
    let all = ap (λ n. n * m) s.is ∙ product (size (sub es (i - 1))) m in
    record { some = s.some; high = omega (arith, at_least (sub es (i - 1)) m); all = all; low = omega arith }

pub record Fit2 (es : List Entry) (i m out skip : ℕ) : Type 0 where
  pub some : 1 ≤ i
  pub room : skip ≤ i - 1
  pub all : size (sub es i) * m ≡ size (sub es (i - 1 - skip)) * m + skip * m + m
  pub low : size (sub es (i - 1 - skip)) * m + skip * m ≤ out
  pub first : m ≤ size (sub es (i - 1 - skip)) * m
  pub last : m ≤ skip * m
  pub skip_is : skip * m ≡ size (sub es (i - 1)) * m

pub fit_two : (es : List Entry) (i m out skip : ℕ) → Sized2 es i → skip ≡ size (sub es (i - 1)) → size (sub es i) * m ≤ out + m → Fit2 es i m out skip
fit_two es i m out skip s e h =
    let front : size (sub es (i - 1 - size (sub es (i - 1)))) ≡ size (sub es (i - 1 - skip)) = ap (λ n. size (sub es (i - 1 - n))) (sym e) in
    let all =
    ap (λ n. n * m) (s.is ∙ (λ j. front j + sym e j + 1))
    ∙ product (size (sub es (i - 1 - skip)) + skip) m
    ∙ ap (λ n. n + m) (add-mul (size (sub es (i - 1 - skip))) skip m) in
    record {
      some = s.some;
      room = omega (arith, s.room);
      all = all;
      low = omega arith;
      first = at_least (sub es (i - 1 - skip)) m;
      last = omega (arith, at_least (sub es (i - 1)) m, ap (λ n. n * m) e);
      skip_is = ap (λ n. n * m) e;
    }

module _ (M : System) (r : Run) (low : r.back ≤ places r) (es : List Entry) (h : sound 0 es ≡ true) (i : ℕ) (within : i < length es) where
  abbrev Is : Ltl → ℕ → Bool
  Is f = truth M r f

  pub leaf_is : (get_or es i True ≡ True) ⊎ ((x : ℕ) × (get_or es i True ≡ Fact x)) ⊎ ((x : ℕ) × (get_or es i True ≡ Enabled x)) ⊎ ((x : ℕ) × (get_or es i True ≡ Taken x)) → (F G : ℕ → Bool) (p : ℕ) → cell M r (get_or es i True) F G p ≡ truth M r (sub es i) p
  leaf_is l F G p =
      ⊎_elim (λ e. ap (λ x. cell M r x F G p) e ∙ sym (ap (λ f. truth M r f p) (at_entry es h i within _ e).is))
      (⊎_elim (λ e. ap (λ x. cell M r x F G p) e.1 ∙ sym (ap (λ f. truth M r f p) (at_entry es h i within _ e.1).is))
      (⊎_elim (λ e. ap (λ x. cell M r x F G p) e.1 ∙ sym (ap (λ f. truth M r f p) (at_entry es h i within _ e.1).is))
      (λ e. ap (λ x. cell M r x F G p) e.1 ∙ sym (ap (λ f. truth M r f p) (at_entry es h i within _ e.1).is)))) l

  pub one_is : (get_or es i True ≡ Not) ⊎ (get_or es i True ≡ Next) → (F G : ℕ → Bool) → ((q : ℕ) → q < places r → F q ≡ Is (sub es (i - 1)) q) → ((q : ℕ) → q < places r → G q ≡ Is (sub es (i - 1)) q) → (p : ℕ) → p < places r → cell M r (get_or es i True) F G p ≡ truth M r (sub es i) p
  one_is l F G f g p lt =
      cell_same M r low F G (Is (sub es (i - 1))) (Is (sub es (i - 1))) (get_or es i True) (λ _. f) (λ _. g) p lt
      ∙ ⊎_elim
      (λ e. ap (λ x. cell M r x (Is (sub es (i - 1))) (Is (sub es (i - 1))) p) e ∙ sym (ap (λ f. truth M r f p) (with_one es h i within Not e neg refl (λ f s. refl)).is))
      (λ e. ap (λ x. cell M r x (Is (sub es (i - 1))) (Is (sub es (i - 1))) p) e ∙ sym (ap (λ f. truth M r f p) (with_one es h i within Next e next refl (λ f s. refl)).is)) l

  pub two_is : (get_or es i True ≡ Or) ⊎ (get_or es i True ≡ Until) → (skip : ℕ) → skip ≡ size (sub es (i - 1)) → (F G : ℕ → Bool) → ((q : ℕ) → q < places r → F q ≡ Is (sub es (i - 1 - skip)) q) → ((q : ℕ) → q < places r → G q ≡ Is (sub es (i - 1)) q) → (p : ℕ) → p < places r → cell M r (get_or es i True) F G p ≡ truth M r (sub es i) p
  two_is l skip s F G f g p lt =
      let A = Is (sub es (i - 1 - skip)) in
      let B = Is (sub es (i - 1)) in
      let back : sub es (i - 1 - size (sub es (i - 1))) ≡ sub es (i - 1 - skip) = ap (λ n. sub es (i - 1 - n)) (sym s) in
      cell_same M r low F G A B (get_or es i True) (λ _. f) (λ _. g) p lt
      ∙ ⊎_elim
      (λ e. ap (λ x. cell M r x A B p) e ∙ sym (ap (λ f. truth M r f p) ((with_two es h i within Or e or refl (λ f g s. refl)).is ∙ ap (λ f. or f (sub es (i - 1))) back)))
      (λ e. ap (λ x. cell M r x A B p) e ∙ sym (ap (λ f. truth M r f p) ((with_two es h i within Until e until refl (λ f g s. refl)).is ∙ ap (λ f. until f (sub es (i - 1))) back))) l
