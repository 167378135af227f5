use Rattle.formula.proofs.spans.+span.Given as goal

abbrev pub decreases-span : goal.decreases-span
decreases-span l = l.at
