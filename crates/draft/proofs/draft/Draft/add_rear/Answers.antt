use Rattle.std.proofs.Common.{sym, subst}
use Rattle.draft.specs.Drafts.{Adds, rear}
use Rattle.draft.proofs.Drafting.{adds}
use Rattle.draft.proofs.draft.Draft.add_rear.Goals as goal

pub returns-in-Globally : goal.returns-in-Globally
returns-in-Globally c = subst (λ j. Adds c.args.self.now c.add-in-Globally-3.new.self (rear j)) (sym c.in-Globally.is) (adds (adds c.add-in-Globally.ensures c.add-in-Globally-2.ensures) c.add-in-Globally-3.ensures)
