use Rattle.std.proofs.Common.{rules}
use Rattle.std.proofs.lemmas.Result.{IfOk-weaker}
use Rattle.rule.specs.Read.{Granted}
use Rattle.rule.specs.Words.{rows}
use Rattle.kinds.specs.declared.AnyPlant.TheVariants.{Rule}
use Rattle.replies.proofs.Makings.{kept_or_not, mapped}
use Rattle.replies.proofs.state.Console.rule_call.Goals as goal

pub returns : goal.returns
returns c =
    IfOk-weaker c.plant_made.result _ _ (λ s e. kept_or_not (Granted c.args.words.now) (rows c.args.words.now) (λ p. Rule p) c.from_words-made.result c.map.result c.from_words-made.ensures.answer (mapped _ (λ p. Rule p) c.from_words-made.result c.map.result c.map.ensures.cases (λ p q post. search (rules, post))) e) c.plant_made.ensures
