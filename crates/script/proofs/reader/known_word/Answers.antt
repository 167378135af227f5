use Rattle.std.proofs.Common.{◌≡◌, ℕ, sym, ap, ◌∙◌, arith, below_more}
use Rattle.std.proofs.lemmas.Bool.Decides.{Decides-eqb}
use Rattle.std.proofs.lemmas.List.{get_or_default}
use Rattle.std.proofs.lemmas.List.Elements.{Contains-get_or}
use Rattle.std.proofs.lemmas.Slice.Eq.{slice_eq-Decides}
use Rattle.script.specs.declared.calls.ListWord.TheVariants.{Formula}
use Rattle.script.specs.declared.calls.Word.TheVariants.{List as ListOf}
use Rattle.script.specs.Says.{spelled}
use Rattle.script.proofs.reader.known_word.Goals as goal

pub loop-word-preserved : goal.loop-word-preserved
loop-word-preserved c =
    below_more _ _ c.loop-word.invariant
    (λ e.
    let same = (slice_eq-Decides Decides-eqb _ _ _ c.eq.ensures).1 (e ∙ sym c.spelling.ensures) in
    let differs = c.if-eq.false in
    let z : ◌≡◌ {A = ℕ} 0 1 = cc in
    omega arith)

pub returns-then-eq : goal.returns-then-eq
returns-then-eq c = (
  Contains-get_or c.args.words.now c.loop-word.word-index (ListOf Formula) c.loop-word-test.true,
  (slice_eq-Decides Decides-eqb _ _ _ c.eq.ensures).0 c.if-eq.true ∙ c.spelling.ensures,
)

pub returns : goal.returns
returns c = λ w known e.
    c.loop-word.invariant known.0 (omega (arith, known.1, c.loop-word-test.false))
    (e ∙ ap spelled (sym known.2 ∙ get_or_default c.args.words.now known.0 w (ListOf Formula) known.1))
