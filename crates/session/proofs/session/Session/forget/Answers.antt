use Rattle.std.proofs.Common.{refl, rules}
use Rattle.session.proofs.Laws.{same, stays}
use Rattle.session.proofs.session.Session.forget.Goals as goal

pub returns-then-not-remove : goal.returns-then-not-remove
returns-then-not-remove g c = stays _ _ _ _ (same _ _ refl c.if-not-remove.ensures.1 refl) (λ h lived. search rules)
