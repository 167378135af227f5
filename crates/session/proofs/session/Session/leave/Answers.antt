use Rattle.std.proofs.Common.{◌≡◌, None, ok_or, refl, rules, sym, ◌∙◌, ap}
use Rattle.std.proofs.lemmas.Result.{err_from_is_err_and}
use Rattle.session.proofs.Laws.{same, stays}
use Rattle.session.proofs.session.Session.leave.Goals as goal

pub returns-in_err-ok_or : goal.returns-in_err-ok_or
returns-in_err-ok_or g c =
    let p = err_from_is_err_and c.from_residual.result c.from_residual.ensures.1 in
    let none : c.args.self.now.walk ≡ None = sym c.take.ensures.value ∙ c.in_err-ok_or.ensures.ok_part in
    let is : c.in_err-ok_or.field-0.0 ≡ c.at.result = cc (c.in_err-ok_or.ensures.value, ap (λ o. ok_or o c.at.result) c.in_err-ok_or.ensures.ok_part) in
    rw (p.1, p.2, is) (stays _ _ _ _ (same _ _ refl refl (c.take.ensures.after ∙ sym none)) (λ h lived. search rules))
