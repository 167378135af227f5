-- Looking for an event among the arcs of a state. Assumes nothing.
use Rattle.std.proofs.Common.{◌≡◌, ℕ, zero, suc, ◌<◌, true, false, ◌||◌, eqb, List, [], ◌∷◌, length, get_or, refl, ap, ◌∙◌, arith}
use Rattle.std.proofs.lemmas.Bool.{eq-eqb, ne_eqb, or_left, or_right}
use Rattle.meaning.specs.declared.Arc.{Arc}
use Rattle.meaning.specs.Systems.{no_arc}
use Rattle.meaning.specs.Truth.{bears}

pub bears_here : (t : ℕ) (xs : List Arc) (i : ℕ) → i < length xs → (get_or xs i no_arc).event ≡ t → bears t xs ≡ true
bears_here t [] i h e = absurd (omega arith)
bears_here t (x ∷ xs) zero h e = or_left (eqb x.event t) (bears t xs) (eq-eqb x.event t e)
bears_here t (x ∷ xs) (suc i) h e = or_right (eqb x.event t) (bears t xs) (bears_here t xs i (omega arith) e)

pub bears_nowhere : (t : ℕ) (xs : List Arc) → ((i : ℕ) → i < length xs → (get_or xs i no_arc).event ≡ t → ⊥) → bears t xs ≡ false
bears_nowhere t [] h = refl
bears_nowhere t (x ∷ xs) h =
    ap (λ b. b || bears t xs) (ne_eqb x.event t (λ e. h 0 (omega arith) e)) ∙ bears_nowhere t xs (λ i lt e. h (suc i) (omega arith) e)
