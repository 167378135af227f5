use Rattle.std.proofs.Common.{subst, rules}
use Rattle.std.proofs.lemmas.Option.{MatchOption-at_some, MatchOption-at_none}
use Rattle.std.proofs.lemmas.Result.{IfOk-from_err}
use Rattle.script.specs.Words.{Cut}
use Rattle.script.proofs.Cuts.{cut_once}
use Rattle.script.proofs.Once.{plain, given_at}
use Rattle.script.proofs.reader.read.Goals as goal

pub returns-then-is_skipped : goal.returns-then-is_skipped
returns-then-is_skipped c = record { answer = search rules; plain = plain c.args.line.now }

pub returns-in_default : goal.returns-in_default
returns-in_default c = record {
  answer = (search rules, λ m a. c.in_default.ensures a.word a.known (cut_once c.cut.ensures a.cut).0);
  plain = plain c.args.line.now;
}

pub returns-in_err-call : goal.returns-in_err-call
returns-in_err-call c = record { answer = IfOk-from_err _ _ c.from_residual.ensures.0; plain = plain c.args.line.now }

pub returns-in-Some-2 : goal.returns-in-Some-2
returns-in-Some-2 c = record {
  answer = record {
    word = c.in-Some.word;
    known = c.in-Some.ensures.0;
    rest = c.cut.result.1.now;
    cut = subst (λ l. Cut 32 c.args.line.now l c.cut.result.1.now) c.in-Some.ensures.1 c.cut.ensures;
    given = MatchOption-at_some _ _ _ c.in-Some-2.is c.in_ok-call.ensures;
  };
  plain = plain c.args.line.now;
}

pub returns-in-None : goal.returns-in-None
returns-in-None c = record {
  answer = (search rules, λ m a. MatchOption-at_none _ _ c.in-None.is c.in_ok-call.ensures m (given_at c.in-Some.word c.cut.ensures c.in-Some.ensures.1 a));
  plain = plain c.args.line.now;
}
