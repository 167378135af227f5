-- What a turn of a row keeps. Assumes nothing.
use Rattle.std.proofs.Common.{◌≡◌, ℕ, ◌+◌, ◌-◌, ◌<◌, ◌≤◌, Bool, true, false, not, ◌&&◌, ◌||◌, eqb, ◌≢◌, List, length, set, sym, refl, ap, ◌∙◌, subst, ⊎_elim, arith, length-set, get_or-set_other, below_more}
use mir.Val.{bool_byte}
use Rattle.std.proofs.lemmas.Bool.{cases_Bool, cases_lt}
use Rattle.meaning.specs.Systems.{System}
use Rattle.meaning.specs.Runs.{Run, places, after}
use Rattle.meaning.specs.Truth.{goes, sweep}
use Rattle.meaning.proofs.Places.{goes_cases, after_mid, after_last}
use Rattle.formula.specs.Table.{arity}
use Rattle.formula.specs.declared.entry.Entry.{Entry}
use Rattle.formula.specs.declared.entry.Entry.TheVariants.{True, Fact, Enabled, Taken, Not, Or, Next, Until}
use Rattle.rows.specs.Cells.{cell}
use Rattle.rows.specs.Rows.{on, SameBelow, Stand}
use Rattle.rows.proofs.Steps.{sweep_same, on_set_same}

-- an entry reads its parts' rows only at places of the run, and only those of the parts that it has
module _ (M : System) (r : Run) (low : r.back ≤ places r) (F G F' G' : ℕ → Bool) where
  next_in : (p : ℕ) → p < places r → goes r p ≡ true → after r p < places r
  next_in p h on =
      ⊎_elim (λ mid. subst (λ n. n < places r) (sym (after_mid r p mid)) mid)
      (λ end. ⊎_elim (λ mid. absurd (omega arith)) (λ back. subst (λ n. n < places r) (sym (after_last r p end)) back) (goes_cases r p on))
      (cases_lt (p + 1) (places r))

  pub cell_same : (e : Entry) → (1 < arity e → (q : ℕ) → q < places r → F q ≡ F' q) → (0 < arity e → (q : ℕ) → q < places r → G q ≡ G' q) → (p : ℕ) → p < places r → cell M r e F G p ≡ cell M r e F' G' p
  cell_same True f g p h = refl
  cell_same (Fact q) f g p h = refl
  cell_same (Enabled t) f g p h = refl
  cell_same (Taken t) f g p h = refl
  cell_same Not f g p h = ap not (g (omega arith) p h)
  cell_same Or f g p h = λ i. f (omega arith) p h i || g (omega arith) p h i
  cell_same Next f g p h =
      ⊎_elim
      (λ on. ap (λ b. goes r p && b) (g (omega arith) (after r p) (next_in p h on)))
      (λ off. ap (λ b. b && G (after r p)) off ∙ sym (ap (λ b. b && G' (after r p)) off))
      (cases_Bool (goes r p))
  cell_same Until f g p h =
      let again = sweep_same F G F' G' false (places r) (f (omega arith)) (g (omega arith)) (places r - r.back) r.back (omega arith) in
      ap (λ b. sweep F G b (places r - p) p) again ∙ sweep_same F G F' G' _ (places r) (f (omega arith)) (g (omega arith)) (places r - p) p (omega arith)

-- the places below p are filled
pub record Filled (M : System) (r : Run) (e : Entry) (was table : List ℕ) (first last out p : ℕ) : Type 0 where
  pub done : (q : ℕ) → q < p → on table out q ≡ cell M r e (on was first) (on was last) q
  pub same : SameBelow was table out
  pub long : length table ≡ length was

pub filled_none : (M : System) (r : Run) (e : Entry) (was : List ℕ) (first last out : ℕ) → Filled M r e was was first last out 0
filled_none M r e was first last out = record { done = λ q h. absurd (omega arith); same = λ k h. refl; long = refl }

module _ (M : System) (r : Run) (e : Entry) (was table : List ℕ) (first last out p : ℕ) (stand : Stand e first last (places r) out) (room : out + places r ≤ length was) (low : r.back ≤ places r) (h : p < places r) (s : Filled M r e was table first last out p) where
  pub filled_more : (v : Bool) (n : ℕ) → v ≡ cell M r e (on table first) (on table last) p → n ≡ bool_byte v → Filled M r e was (set table (out + p) n) first last out (p + 1)
  filled_more v n is byte = record {
    done = below_more _ p
        (λ q lt. let far : out + q ≢ out + p = omega arith in ap (λ x. eqb x 1) (get_or-set_other table (out + p) (out + q) n 0 far) ∙ s.done q lt)
        (on_set_same table out p v n byte (omega (arith, s.long)) ∙ is
        ∙ cell_same M r low (on table first) (on table last) (on was first) (on was last) e
        (λ two q lt. ap (λ x. eqb x 1) (s.same (first + q) (omega (arith, stand.two two))))
        (λ one q lt. ap (λ x. eqb x 1) (s.same (last + q) (omega (arith, stand.one one)))) p h);
    same = λ k lt. let far : k ≢ out + p = omega arith in get_or-set_other table (out + p) k n 0 far ∙ s.same k lt;
    long = length-set table (out + p) n ∙ s.long;
  }
