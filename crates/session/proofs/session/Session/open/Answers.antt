use Rattle.std.proofs.Common.{refl, rules}
use Rattle.std.proofs.lemmas.Result.{err_from_is_err_and}
use Rattle.session.proofs.Laws.{same, stays, opened, not_opened}
use Rattle.session.proofs.session.Session.open.Goals as goal

pub returns-in_err-add : goal.returns-in_err-add
returns-in_err-add g c =
    let p = err_from_is_err_and c.from_residual.result c.from_residual.ensures.1 in
    let why = c.in_err-add.ensures in
    rw p.1
    (stays _ _ _ _ (same _ _ refl why.1 refl)
    (λ h lived. not_opened c.args.self.now.book c.args.state lived c.in_err-add.field-0.0 p.0 why.0 p.2))

pub returns : goal.returns
returns g c =
    let added = c.in_ok-add.ensures in
    record { plant = refl; refused = search rules; law = λ h lived. opened c.args.self.now.book c.args.state lived _ added.0 added.1 added.2 }
