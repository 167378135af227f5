use Rattle.std.proofs.Common.{length}
use Rattle.std.proofs.lemmas.Result.{MatchResult-weaker}
use Rattle.formula.specs.View.{entries_of, tree_of}
use Rattle.runs.specs.Known.{run_of}
use Rattle.session.proofs.Tested.{refused_alike, clear_for_plant, same_answer}
use Rattle.session.proofs.session.Session.test.Goals as goal

pub returns-clause-law : goal.returns-clause-law
returns-clause-law g c =
    let self = c.args.self.now in
    let es = entries_of c.args.formula.now in
    let r = run_of c.args.run in
    let bytes = length c.args.cells.now in
    λ h lived.
    MatchResult-weaker c.test.result c.test.ensures.answer
    (λ t granted. (clear_for_plant self.book self.exact lived es r bytes granted.0, same_answer self.book self.exact lived es r bytes granted.0 (tree_of c.args.formula.now) t granted.1))
    (λ e first. refused_alike self.book self.exact lived es r bytes e first)
