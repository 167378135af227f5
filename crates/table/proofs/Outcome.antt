-- Words have one answer. Relies on refusal's theorems.
use Rattle.std.proofs.Common.{◌≡◌, ℕ, List, Err, Result, sym, ap, ◌∙◌}
use Rattle.refusal.specs.declared.Refusal.{Refusal}
use Rattle.refusal.specs.Rows.{Clear, First}
use Rattle.refusal.proofs.Settled.{AllSteady, one_lowest, one_fails, one_refusal, not_both}
use Rattle.plant.specs.declared.Failure.{Failure}
use Rattle.plant.specs.declared.Failure.TheVariants.{Refused}
use Rattle.table.specs.Refused.{rows}

steady : (ws : List ℕ) → AllSteady (rows ws)
steady ws = (one_fails, (one_lowest, (one_fails, (one_lowest, (λ i j a b. a.1 ∙ sym b.1, (one_lowest, tt))))))

module _ {P : Type 0} (ws : List ℕ) (r : Result P Failure) where
  -- every refusal of the words is the answer
  abbrev pub Only : Type 0
  Only = (e : Refusal) → First (rows ws) e → r ≡ Err (Refused e)

  pub refused_only : (e : Refusal) → r ≡ Err (Refused e) → First (rows ws) e → Only
  refused_only e is first f other = is ∙ ap (λ x. Err (Refused x)) (one_refusal (rows ws) (steady ws) e f first other)

  pub clear_only : Clear (rows ws) → Only
  clear_only clear e first = absurd (not_both (rows ws) e clear first)
