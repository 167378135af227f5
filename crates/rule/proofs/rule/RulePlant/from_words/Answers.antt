use Rattle.std.proofs.Common.{ℕ, List, Err, sym, ap, subst}
use Rattle.std.proofs.lemmas.Result.{err_from_is_err_and}
use Rattle.plant.specs.declared.Failure.TheVariants.{Refused}
use Rattle.rule.specs.Words.{Foreign, Shaped}
use Rattle.rule.specs.Read.{Reads}
use Rattle.rule.proofs.Sense.{few, filled, ranged, clear, granted, one, not_refused}
use Rattle.rule.proofs.rule.RulePlant.from_words.Goals as goal

pub returns-in_err-sections-clause-only : goal.returns-in_err-sections-clause-only
returns-in_err-sections-clause-only c =
    let first = c.in_err-sections.ensures in
    let q = err_from_is_err_and c.from_residual.result c.from_residual.ensures.1 in
    rw (q.1, q.2) (λ e f. ap (λ d. Err (Refused d)) (one c.args.words.now c.in_err-sections.field-0.0 e first f))

pub read-requires : goal.read-requires
read-requires c = subst (λ (ws : List ℕ). (i : ℕ) → Foreign ws i → ⊥) (sym c.in_ok-sections.ensures.1) c.in_ok-sections.ensures.0

pub returns-in_err-parts : goal.returns-in_err-parts
returns-in_err-parts c =
    let ws = c.args.words.now in
    let same = c.in_ok-sections.ensures.1 in
    let shaped = subst Shaped same c.in_ok-sections.sections.shaped in
    let none = clear ws shaped c.in_ok-sections.ensures.0 in
    let q = err_from_is_err_and c.from_residual-in_err-parts.result c.from_residual-in_err-parts.ensures.1 in
    rw (q.1, q.2) (record { answer = none; only = λ e f. absurd (not_refused ws none e f) })

pub invariant_of-result : goal.invariant_of-result
invariant_of-result c =
    let ws = c.args.words.now in
    let p = c.in_ok-parts.parts in
    let same = c.in_ok-sections.ensures.1 in
    let shaped = subst Shaped same c.in_ok-sections.sections.shaped in
    let reads = subst (λ ws. Reads ws p) same c.in_ok-parts.ensures in
    record {
      few = few ws p shaped reads;
      filled = filled ws p shaped reads;
      ranged = ranged ws p shaped reads c.in_ok-sections.ensures.0;
    }

pub returns : goal.returns
returns c =
    let ws = c.args.words.now in
    let p = c.in_ok-parts.parts in
    let same = c.in_ok-sections.ensures.1 in
    let shaped = subst Shaped same c.in_ok-sections.sections.shaped in
    let reads = subst (λ ws. Reads ws p) same c.in_ok-parts.ensures in
    let all = granted ws p shaped c.in_ok-sections.ensures.0 reads in
    record { answer = all; only = λ e f. absurd (not_refused ws all.clear e f) }
