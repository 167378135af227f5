use Rattle.rows.proofs.run.Run.+fill.Given as goal

abbrev pub decreases-fill : goal.decreases-fill
decreases-fill g l = l.at
