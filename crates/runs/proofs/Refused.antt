-- What a run is answered by the table of its refusals. Relies on refusal's theorems.
use Rattle.std.proofs.Common.{ℕ, ◌*◌, ◌<◌, ◌≤◌, Bool, List, length, None, Some, Option, Decides, MatchOption, MatchResult, subst, inl, inr, ⊎_elim, arith, refl}
use Rattle.std.specs.Option.{ok_or}
use Rattle.refusal.specs.declared.Layer.TheVariants.{Session}
use Rattle.refusal.specs.declared.Refusal.{Refusal}
use Rattle.refusal.specs.Causes.{Gives}
use Rattle.refusal.specs.Rows.{Clear, First, Lowest}
use Rattle.refusal.proofs.Settled.{one_lowest}
use Rattle.formula.specs.declared.entry.Entry.{Entry}
use Rattle.meaning.specs.Systems.{System}
use Rattle.meaning.specs.Runs.{Run, places}
use Rattle.runs.specs.Tests.{Beyond, Shaped, Closed, Bad, rows}
use Rattle.runs.specs.Faults.{Faulty}

-- no event of the formula is beyond, and the arrays are shaped
module _ (E : ℕ) (opened : ℕ → Bool) (M : System) (es : List Entry) (r : Run) (bytes : ℕ) (none : (i : ℕ) → Beyond E es i → ⊥) (shaped : Shaped r) where
  pub by_fault : {e : Refusal} (i : ℕ) → Lowest (Bad opened M r) i → Faulty opened M r i e → First (rows E opened M es r bytes) e
  by_fault i low fault =
      inr (
        λ j beyond. none j beyond.here,
        inr (
          λ j fails. fails.0 shaped,
          ⊎_elim
              (λ closed. inl (i, (low, closed.0), closed.1))
              (λ wrong. inr (λ j p. wrong.0 (subst (Closed opened r) (one_lowest j i p.0 low) p.1), inl (i, (low, wrong.0), wrong.2)))
              fault,
        ),
      )

  module _ (fine : (i : ℕ) → Bad opened M r i → ⊥) where
    clear : length es * places r ≤ bytes → Clear (rows E opened M es r bytes)
    clear enough =
        (λ j beyond. none j beyond.here, (λ j fails. fails.0 shaped, (λ j p. fine j p.0.here, (λ j p. fine j p.0.here, (λ j fails. fails.0 enough, tt)))))

    short : {e : Refusal} → bytes < length es * places r → Gives e 45 Session 0 → First (rows E opened M es r bytes) e
    short less gives =
        inr (
          λ j beyond. none j beyond.here,
          inr (
            λ j fails. fails.0 shaped,
            inr (λ j p. fine j p.0.here, inr (λ j p. fine j p.0.here, inl (0, (λ enough. omega arith, refl), gives))),
          ),
        )

    -- the answer of the test in lent bytes, or want of bytes
    pub tested : (Sat : Type 0) (answer : Option Bool) (e : Refusal) → Gives e 45 Session 0 → MatchOption answer (bytes < length es * places r) (λ b. (length es * places r ≤ bytes) × Decides b Sat) → MatchResult (ok_or answer e) (λ b. Clear (rows E opened M es r bytes) × Decides b Sat) (λ e. First (rows E opened M es r bytes) e)
    tested Sat None e gives less = short less gives
    tested Sat (Some b) e gives told = (clear told.0, told.1)
