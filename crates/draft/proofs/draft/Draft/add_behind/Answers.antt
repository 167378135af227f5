use Rattle.std.proofs.Common.{sym, subst}
use Rattle.draft.specs.Drafts.{Adds, behind}
use Rattle.draft.proofs.Drafting.{adds}
use Rattle.draft.proofs.draft.Draft.add_behind.Goals as goal

pub returns-in-And : goal.returns-in-And
returns-in-And c = subst (λ j. Adds c.args.self.now c.add-in-And-3.new.self (behind j)) (sym c.in-And.is) (adds (adds c.add-in-And.ensures c.add-in-And-2.ensures) c.add-in-And-3.ensures)
