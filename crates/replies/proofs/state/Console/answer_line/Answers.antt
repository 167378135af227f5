use Rattle.std.proofs.Common.{[], ◌∷◌, ◌++◌, vec_items, string_bytes, ap, ◌∙◌, subst}
use Rattle.std.proofs.lemmas.Result.{IfOk-weaker}
use Rattle.script.specs.Says.{meaning, Reads}
use Rattle.replies.specs.Replies.{state_of}
use Rattle.replies.proofs.Replied.{reply_call, reply_skip, reply_what}
use Rattle.replies.proofs.state.Console.answer_line.Goals as goal

pub returns-in_ok-answer-in-Call : goal.returns-in_ok-answer-in-Call
returns-in_ok-answer-in-Call c =
    let says = subst (Reads c.args.words.now c.args.line.now) c.in-Call.is c.in_ok-call.ensures.answer in
    let answer = string_bytes c.in_ok-answer-in-Call.answer in
    IfOk-weaker c.ended.result _ _
    (λ v e.
    reply_call c.read.ensures.plain (meaning c.in-Call.call) answer (state_of c.answer.new.self) says (e ∙ ap (λ w. vec_items w ++ 10 ∷ []) c.into_bytes.ensures.value) c.in_ok-answer-in-Call.ensures)
    c.ended.ensures

pub returns-in-Skip : goal.returns-in-Skip
returns-in-Skip c = reply_skip c.read.ensures.plain (subst (Reads c.args.words.now c.args.line.now) c.in-Skip.is c.in_ok-call.ensures.answer) c.new.ensures.items

pub returns-in_ok-thrown-in-What : goal.returns-in_ok-thrown-in-What
returns-in_ok-thrown-in-What c =
    let none = subst (Reads c.args.words.now c.args.line.now) c.in-What.is c.in_ok-call.ensures.answer in
    IfOk-weaker c.ended-in-What.result _ _ (λ v e. reply_what none (e ∙ ap (λ l. l ++ 10 ∷ []) c.in_ok-thrown-in-What.ensures)) c.ended-in-What.ensures
