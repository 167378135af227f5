-- A test of what a formula means at a place of a run. The code computes it; `Decided` says that it is right. Relies on Runs.
use Rattle.std.specs.Prelude.{ℕ, zero, suc, ◌+◌, ◌-◌, Bool, true, false, not, ◌&&◌, ◌||◌, List, [], ◌∷◌, ◌==◌, nat_lt}
use Rattle.formula.specs.Atoms.{bit_of}
use Rattle.formula.specs.Ltl.{Ltl, top, fact, enabled, taken, neg, or, next, until}
use Rattle.meaning.specs.declared.Arc.{Arc}
use Rattle.meaning.specs.Systems.{System}
use Rattle.meaning.specs.Runs.{Run, places, state_at, event_at, after}

abbrev pub bears : ℕ → List Arc → Bool
bears t [] = false
bears t (x ∷ xs) = x.event == t || bears t xs

-- an arc is taken at p
abbrev pub goes : Run → ℕ → Bool
goes r p = nat_lt (p + 1) (places r) || nat_lt r.back (places r)

-- g within the d places from p on, and f before; past them, `last`
abbrev pub sweep : (ℕ → Bool) → (ℕ → Bool) → Bool → ℕ → ℕ → Bool
sweep f g last zero p = last
sweep f g last (suc d) p = g p || (f p && sweep f g last d (p + 1))

-- a U by two sweeps: one along the loop, and one from p to the run's end that goes on with it
abbrev pub truth : System → Run → Ltl → ℕ → Bool
truth M r top p = true
truth M r (fact q) p = bit_of (M.facts (state_at r p)) q
truth M r (enabled t) p = bears t (M.arcs (state_at r p))
truth M r (taken t) p = goes r p && event_at r p == t
truth M r (neg f) p = not (truth M r f p)
truth M r (or f g) p = truth M r f p || truth M r g p
truth M r (next f) p = goes r p && truth M r f (after r p)
truth M r (until f g) p =
    sweep (truth M r f) (truth M r g) (sweep (truth M r f) (truth M r g) false (places r - r.back) r.back) (places r - p) p
