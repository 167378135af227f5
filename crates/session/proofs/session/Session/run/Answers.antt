use Rattle.std.proofs.Common.{◌≡◌, ◌+◌, List, length, get_or, take, vec_items, sym, ◌∙◌, subst, arith}
use Rattle.std.proofs.lemmas.List.{take_more, length-take-le}
use Rattle.session.specs.History.{Turn}
use Rattle.session.specs.Log.{logged}
use Rattle.session.specs.Sessions.{Lived}
use Rattle.session.specs.declared.turns.Call.TheVariants.{Open}
use Rattle.session.proofs.Logs.{logged_more}
use Rattle.session.proofs.session.Session.run.Goals as goal

pub loop-call-preserved : goal.loop-call-preserved
loop-call-preserved g c =
    let calls = c.args.calls.now in
    let i = c.loop-call.call-index in
    let inv = c.loop-call.invariant in
    let put = c.push_reserved.ensures in
    let call = get_or calls i (Open 0) in
    let before = vec_items c.loop-call.answers in
    let long : length before ≡ length (take i calls) = sym c.loop-call.answers.ok.0 ∙ inv.counted ∙ sym (length-take-le i calls (omega (arith, c.loop-call-test.true))) in
    let more : (h : List Turn) → logged (take (i + 1) calls) (vec_items c.push_reserved.new.self) h ≡ _ = λ h.
    (λ k. logged (take_more calls i (Open 0) c.loop-call-test.true k) (put.items k) h) ∙ logged_more (take i calls) before call c.answer-answer.result h long in
    record {
      counted = omega (arith, put.len, inv.counted);
      room = omega (arith, inv.room, put.capacity);
      plant = c.answer-answer.ensures.plant ∙ inv.plant;
      law = λ h lived. subst (Lived c.answer-answer.new.self) (sym (more h)) (c.answer-answer.ensures.law _ (inv.law h lived));
    }
