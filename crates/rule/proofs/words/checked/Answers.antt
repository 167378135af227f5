use Rattle.std.proofs.Common.{◌≡◌, ℕ, List, subst, rules}
use Rattle.rule.specs.Words.{Foreign}
use Rattle.rule.proofs.words.checked.Goals as goal

pub returns-in-None : goal.returns-in-None
returns-in-None c =
    let same : c.in_ok-sections.sections.words.now ≡ c.args.words.now = search rules in
    (subst (λ (ws : List ℕ). (i : ℕ) → Foreign ws i → ⊥) same c.in-None.ensures, same)
