-- The row of a formula's last entry, which is the whole formula's. Assumes nothing.
use Rattle.std.proofs.Common.{◌≡◌, ℕ, ◌+◌, ◌-◌, ◌*◌, length, take, sym, ap, ◌∙◌, add-mul, one-mul, arith, take_all}
use Rattle.formula.specs.Stack.{sub, tree}
use Rattle.formula.specs.Table.{size}
use Rattle.formula.specs.View.{entries_of, tree_of}
use Rattle.formula.specs.declared.formula.Formula.{Formula}
use Rattle.formula.proofs.Views.{view_some}

pub record Whole (f : Formula) (n m : ℕ) : Type 0 where
  pub is : sub (entries_of f) (n - 1) ≡ tree_of f
  pub size_is : size (sub (entries_of f) (n - 1)) * m ≡ n * m
  pub last : n * m ≡ (n - 1) * m + m

pub whole : (f : Formula) (n m : ℕ) → n ≡ length (entries_of f) → Whole f n m
whole f n m eq =
    let some = view_some f in
    let k : n - 1 + 1 ≡ length (entries_of f) = omega arith in
    let k' : n - 1 + 1 ≡ n = omega arith in
    let is = ap (λ j. tree (take j (entries_of f))) k ∙ ap tree (take_all (length (entries_of f)) (entries_of f) (omega arith)) in
    record {
      is = is;
      size_is = ap (λ j. j * m) (ap size is ∙ ap length f.whole ∙ sym eq);
      last = ap (λ j. j * m) (sym k') ∙ add-mul (n - 1) 1 m ∙ ap (λ j. (n - 1) * m + j) (one-mul m);
    }
