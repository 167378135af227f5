-- Atoms at the places of a run: finitely many conditions in place of those along its path. Relies on Along.
use Rattle.std.specs.Prelude.{◌≡◌, ℕ, ◌+◌, ◌-◌, ◌<◌, ◌≤◌, true, ◌&&◌}
use Rattle.formula.specs.Atoms.{Atom}
use Rattle.formula.specs.Ltl.{Ltl, top, fact, enabled, taken, neg, or, next, until}
use Rattle.meaning.specs.Runs.{Run, places, state_at, event_at, after}
use Rattle.meaning.specs.Systems.{System}
use Rattle.meaning.specs.Truth.{goes, truth}
use Rattle.tableau.specs.Along.{Fits, Follows, Ends, untils, meets}

-- the atom that the truths at a place of a run make
abbrev pub truths : System → Run → (f : Ltl) → ℕ → Atom f
truths M r top p = tt
truths M r (fact q) p = truth M r (fact q) p
truths M r (enabled t) p = truth M r (enabled t) p
truths M r (taken t) p = truth M r (taken t) p
truths M r (neg f) p = truths M r f p
truths M r (or f g) p = (truths M r f p, truths M r g p)
truths M r (next f) p = (truth M r (next f) p, truths M r f p)
truths M r (until f g) p = (goes r p && truth M r (until f g) (after r p), truths M r f p, truths M r g p)

-- each U is false or at its goal somewhere from b to m
abbrev pub FairLoop : (f : Ltl) → ℕ → ℕ → (ℕ → Atom f) → Type 0
FairLoop f b m a = (j : ℕ) → j < untils f → (i : ℕ) × (b ≤ i) × (i ≤ m) × (meets f j (a i) ≡ true)

-- atoms at the places of a run: each fits its state and is followed by the next, the last one by that of the loop's first place, or it ends
pub record Lasso (M : System) (r : Run) (f : Ltl) (v : ℕ → Atom f) : Type 0 where
  pub fits : (p : ℕ) → p < places r → Fits (M.facts (state_at r p)) (M.arcs (state_at r p)) f (v p)
  pub steps : (p : ℕ) → p + 1 < places r → Follows f (event_at r p) (v p) (v (p + 1))
  pub turns : r.back < places r → Follows f (event_at r (places r - 1)) (v (places r - 1)) (v r.back)
  pub fair : r.back < places r → FairLoop f r.back (places r - 1) v
  pub stops : r.back ≡ places r → Ends f (v (places r - 1))
