use Rattle.std.proofs.Common.{◌≡◌, IfOk, string_bytes, refl, rules}
use Rattle.refusal.specs.Printed.{refused_line}
use Rattle.std.proofs.lemmas.Result.{IfOk-weaker}
use Rattle.formula.specs.View.{entries_of}
use Rattle.replies.specs.Replies.{makes, refuses}
use Rattle.replies.proofs.state.Console.text_call.Goals as goal

pub returns-in-Ok : goal.returns-in-Ok
returns-in-Ok c =
    IfOk-weaker c.table-answer.result _ _ (λ s e. makes (entries_of c.in-Ok.formula) c.in-Ok.ensures.answer e refl) c.table-answer.ensures

pub returns-in-Err : goal.returns-in-Err
returns-in-Err c =
    let told : IfOk c.to_string.result (λ s. string_bytes s ≡ refused_line c.in-Err.refusal) = search rules in
    IfOk-weaker c.to_string.result _ _ (λ s e. refuses c.in-Err.refusal c.in-Err.ensures.answer e refl) told
