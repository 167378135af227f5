-- Two systems that say the same of the states on a path have the same formulas hold there. Assumes nothing.
use Rattle.std.proofs.Common.{◌≡◌, ℕ, suc, ◌/◌, ◌%◌, ◌^◌, ◌<◌, ◌≤◌, List, length, get_or, sym, subst, inl, inr, ⊎_elim, arith}
use Rattle.formula.specs.Ltl.{Ltl, top, fact, enabled, taken, neg, or, next, until}
use Rattle.meaning.specs.declared.Arc.{Arc}
use Rattle.meaning.specs.Systems.{System, no_arc}
use Rattle.meaning.specs.Paths.{Path, Len, endless, ends, Within, Holds}

-- an earlier position is on the path too
pub earlier : (len : Len) (j k : ℕ) → j ≤ k → Within len k → Within len j
earlier endless j k le within = tt
earlier (ends n) j k le within = omega arith

-- of each state on the path both say the same
abbrev pub Same : System → System → Path → Type 0
Same M N π = (i : ℕ) → Within π.len i → (M.facts (π.state i) ≡ N.facts (π.state i)) × (M.arcs (π.state i) ≡ N.arcs (π.state i))

pub turned : (M N : System) (π : Path) → Same M N π → Same N M π
turned M N π same i within = (sym (same i within).0, sym (same i within).1)

pub agree : (M N : System) (π : Path) (same : Same M N π) (back : Same N M π) (f : Ltl) (i : ℕ) → Within π.len i → Holds M π i f → Holds N π i f
agree M N π same back top i within h = tt
agree M N π same back (fact p) i within h = subst (λ w. (w / 2 ^ p) % 2 ≡ 1) (same i within).0 h
agree M N π same back (enabled t) i within h =
    subst (λ (xs : List Arc). (j : ℕ) × (j < length xs) × ((get_or xs j no_arc).event ≡ t)) (same i within).1 h
agree M N π same back (taken t) i within h = h
agree M N π same back (neg f) i within h = λ g. h (agree N M π back same f i within g)
agree M N π same back (or f g) i within h = ⊎_elim (λ a. inl (agree M N π same back f i within a)) (λ b. inr (agree M N π same back g i within b)) h
agree M N π same back (next f) i within h = (h.0, agree M N π same back f (suc i) h.0 h.1)
agree M N π same back (until f g) i within h = (
  h.0,
  h.1,
  h.2,
  agree M N π same back g h.0 h.2 h.3,
  λ j low high. agree M N π same back f j (earlier π.len j h.0 (omega arith) h.2) (h.4 j low high),
)
