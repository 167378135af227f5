-- Lists of arcs: which events they bear. Assumes nothing.
use Rattle.std.proofs.Common.{◌≡◌, ℕ, zero, suc, ◌<◌, true, eqb, List, [], ◌∷◌, length, get_or, Decides, refl, ap, ⊎_elim, arith}
use Rattle.std.proofs.lemmas.Bool.{eq-eqb, eqb-true, false≢true, or_cases, or_left, or_right}
use Rattle.meaning.specs.Systems.{no_arc}
use Rattle.meaning.specs.Truth.{bears}
use Rattle.meaning.specs.declared.Arc.{Arc}

-- some arc of the list bears t and leads to s
abbrev pub In : List Arc → ℕ → ℕ → Type 0
In xs t s = (j : ℕ) × (j < length xs) × (get_or xs j no_arc ≡ record { event = t; target = s })

pub in_bears : (xs : List Arc) (j t : ℕ) → j < length xs → (get_or xs j no_arc).event ≡ t → bears t xs ≡ true
in_bears [] j t h e = absurd (omega arith)
in_bears (x ∷ xs) zero t h e = or_left (eqb x.event t) (bears t xs) (eq-eqb _ _ e)
in_bears (x ∷ xs) (suc j) t h e = or_right (eqb x.event t) (bears t xs) (in_bears xs j t (omega arith) e)

pub bears_in : (t : ℕ) (xs : List Arc) → bears t xs ≡ true → (s : ℕ) × In xs t s
bears_in t [] h = absurd (false≢true h)
bears_in t (x ∷ xs) h =
    ⊎_elim
    (λ e. (x.target, (0, omega arith, ap (λ (u : ℕ). let p : Arc = record { event = u; target = x.target } in p) (eqb-true _ _ e))))
    (λ e. let r = bears_in t xs e in (r.0, (suc r.1.0, omega (arith, r.1.1), r.1.2)))
    (or_cases (eqb x.event t) (bears t xs) h)

pub bears_decides : (t : ℕ) (xs : List Arc) → Decides (bears t xs) ((j : ℕ) × (j < length xs) × ((get_or xs j no_arc).event ≡ t))
bears_decides t xs = (
  λ h. let q = bears_in t xs h in (q.1.0, q.1.1, ap (λ (x : Arc). x.event) q.1.2),
  λ b. in_bears xs b.0 t b.1 b.2,
)

pub no_arcs : (xs : List Arc) → length xs ≡ 0 → xs ≡ []
no_arcs [] e = refl
no_arcs (x ∷ xs) e = absurd (omega arith)
