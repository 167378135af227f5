use Rattle.std.proofs.Common.{◌≡◌, ℕ, List, Err, Result, sym, ap, ◌∙◌, subst, MatchResult}
use Rattle.std.proofs.lemmas.Result.{err_from_is_err_and}
use Rattle.plant.specs.Making.{Failed}
use Rattle.plant.specs.declared.Failure.{Failure}
use Rattle.plant.specs.declared.Failure.TheVariants.{Refused, OutOfMemory}
use Rattle.table.specs.Parts.{model_of}
use Rattle.table.specs.Refused.{rows}
use Rattle.table.specs.Granted.{Granted, Read}
use Rattle.table.specs.declared.table.TablePlant.{TablePlant}
use Rattle.table.proofs.Laws.{clear, means, parts_lawful, arcs_inside}
use Rattle.table.proofs.Outcome.{refused_only, clear_only}
use Rattle.table.proofs.table.TablePlant.from_words.Goals as goal

-- what an answer promises, at an equal answer
abbrev Answered : List ℕ → Result TablePlant Failure → Type 0
Answered ws r = MatchResult r (λ p. Granted ws (model_of p.parts)) (λ e. Failed (rows ws) e)

pub returns-in_err-sections-clause-only : goal.returns-in_err-sections-clause-only
returns-in_err-sections-clause-only c =
    let ws = c.args.words.now in
    let e = c.in_err-sections.field-0.0 in
    let first = c.in_err-sections.ensures in
    let p = err_from_is_err_and c.from_residual.result c.from_residual.ensures.1 in
    let is : c.from_residual.result ≡ Err (Refused e) = p.1 ∙ ap (λ x. Err x) p.2 in
    refused_only ws c.from_residual.result e is first

pub returns-in_err-parts : goal.returns-in_err-parts
returns-in_err-parts c =
    let ws = c.args.words.now in
    let p = err_from_is_err_and c.from_residual-in_err-parts.result c.from_residual-in_err-parts.ensures.1 in
    let is : c.from_residual-in_err-parts.result ≡ Err OutOfMemory = p.1 ∙ ap (λ x. Err x) p.2 in
    let none = clear c.in_ok-sections.ensures.0 in
    record { answer = subst (Answered ws) (sym is) none; only = clear_only ws c.from_residual-in_err-parts.result none }

pub invariant_of-result : goal.invariant_of-result
invariant_of-result c =
    let kept = c.in_ok-sections.ensures.0 in
    let read = subst (λ ws. Read ws c.in_ok-parts.parts) c.in_ok-sections.ensures.1 c.in_ok-parts.ensures in
    record { lawful = parts_lawful kept read; inside = arcs_inside kept read }

pub returns : goal.returns
returns c =
    let kept = c.in_ok-sections.ensures.0 in
    let read = subst (λ ws. Read ws c.in_ok-parts.parts) c.in_ok-sections.ensures.1 c.in_ok-parts.ensures in
    record {
      answer = record { clear = clear kept; means = means kept read; lawful = parts_lawful kept read };
      only = clear_only c.args.words.now _ (clear kept);
    }
