-- The entries of a formula as a part of its array. Assumes nothing.
use Rattle.std.proofs.Common.{◌≡◌, ℕ, ◌+◌, ◌-◌, ◌<◌, ◌≤◌, true, length, take, drop, ap, ◌∙◌, arith, take-append-drop, length-take-le}
use Rattle.std.proofs.lemmas.List.Sums.{sum_by-append}
use Rattle.formula.specs.Atoms.{atom, value}
use Rattle.formula.specs.Evaluated.{Evaluated, value_at, offset_of}
use Rattle.formula.specs.Stack.{sound, sub, tree}
use Rattle.formula.specs.Table.{table, size, elementary, weight}
use Rattle.formula.specs.View.{entries_of}
use Rattle.formula.specs.declared.evaluate.Part.{Part}
use Rattle.formula.specs.declared.formula.Formula.{Formula}
use Rattle.formula.proofs.Evaluations.{weight_table}
use Rattle.formula.proofs.Parts.{some_size, ends_with}
use Rattle.formula.proofs.Stacks.{whole_sound}

module _ (f : Formula) where
  pub view_length : length (entries_of f) ≡ f.len
  view_length = length-take-le f.len f.entries (omega (arith, f.full, f.fits))

  pub view_some : 1 ≤ length (entries_of f)
  view_some = omega (arith, some_size (tree (entries_of f)), ap length f.whole)

  pub view_sound : sound 0 (entries_of f) ≡ true
  view_sound = whole_sound (entries_of f) f.whole

  pub some_weight : (i : ℕ) → weight (take i (entries_of f)) ≤ 10
  some_weight i = omega (arith, f.few, sum_by-append elementary (take i (entries_of f)) (drop i (entries_of f)), ap weight (take-append-drop i (entries_of f)))

  -- the bits of a formula inside follow those of the entries before it
  pub evaluated_at : {i count word : ℕ} {p : Part} → i < length (entries_of f) → count ≡ weight (take (i + 1) (entries_of f)) → Evaluated (entries_of f) i count word p → p.holds ≡ value_at (entries_of f) i word
  evaluated_at {i} {count} {word} lt counted v =
      let es = entries_of f in
      let g = sub es i in
      let split = ends_with es view_sound i lt in
      let sum = ap weight split ∙ sum_by-append elementary (take (i + 1 - size g) es) (table g) in
      let here : v.offset ≡ offset_of es i = omega (arith, v.counted, weight_table g) in
      v.value_is ∙ ap (λ o. value g (atom g o word)) here
