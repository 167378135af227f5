-- Lists of arcs that bear the same events, and what fits them. Assumes nothing.
use Rattle.std.proofs.Common.{◌≡◌, ℕ, zero, suc, ◌<◌, ◌||◌, eqb, List, [], ◌∷◌, length, get_or, refl, ap, ◌∙◌, arith}
use Rattle.formula.specs.Atoms.{Atom}
use Rattle.formula.specs.Ltl.{Ltl, top, fact, enabled, taken, neg, or, next, until}
use Rattle.meaning.specs.Systems.{no_arc}
use Rattle.meaning.specs.Truth.{bears}
use Rattle.meaning.specs.declared.Arc.{Arc}
use Rattle.tableau.specs.Along.{Fits, Follows}
use Rattle.seconds.specs.Free.{Takes}

-- the same events, all to c
unfoldable pub retarget : ℕ → List Arc → List Arc
retarget c [] = []
retarget c (x ∷ xs) = record { event = x.event; target = c } ∷ retarget c xs

pub bears_retarget : (u c : ℕ) (xs : List Arc) → bears u (retarget c xs) ≡ bears u xs
unfolding retarget
bears_retarget u c [] = refl
bears_retarget u c (x ∷ xs) = ap (λ b. eqb x.event u || b) (bears_retarget u c xs)

pub to_retarget : (c : ℕ) (xs : List Arc) (j : ℕ) → j < length (retarget c xs) → (get_or (retarget c xs) j no_arc).target ≡ c
unfolding retarget
to_retarget c [] j h = absurd (omega arith)
to_retarget c (x ∷ xs) zero h = refl
to_retarget c (x ∷ xs) (suc j) h = to_retarget c xs j (omega arith)

pub fits_like : (f : Ltl) (w : ℕ) (xs ys : List Arc) (a : Atom f) → ((u : ℕ) → bears u xs ≡ bears u ys) → Fits w xs f a → Fits w ys f a
fits_like top w xs ys a e h = tt
fits_like (fact p) w xs ys a e h = h
fits_like (enabled t) w xs ys a e h = h ∙ e t
fits_like (taken t) w xs ys a e h = tt
fits_like (neg f) w xs ys a e h = fits_like f w xs ys a e h
fits_like (or f g) w xs ys a e h = (fits_like f w xs ys a.0 e h.0, fits_like g w xs ys a.1 e h.1)
fits_like (next f) w xs ys a e h = fits_like f w xs ys a.1 e h
fits_like (until f g) w xs ys a e h = (fits_like f w xs ys a.1 e h.0, fits_like g w xs ys a.2 e h.1)

pub follows_takes : (f : Ltl) (t : ℕ) (a b : Atom f) → Follows f t a b → Takes f t a
follows_takes top t a b h = tt
follows_takes (fact p) t a b h = tt
follows_takes (enabled u) t a b h = tt
follows_takes (taken u) t a b h = h
follows_takes (neg f) t a b h = follows_takes f t a b h
follows_takes (or f g) t a b h = (follows_takes f t a.0 b.0 h.0, follows_takes g t a.1 b.1 h.1)
follows_takes (next f) t a b h = follows_takes f t a.1 b.1 h.1
follows_takes (until f g) t a b h = (follows_takes f t a.1 b.1 h.1, follows_takes g t a.2 b.2 h.2)
