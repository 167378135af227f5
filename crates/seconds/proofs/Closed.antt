-- Second systems, as what the two graphs have. Assumes nothing.
use Rattle.std.proofs.Common.{◌≡◌, ℕ, false, ◌⊎◌, refl, subst, inl, inr, ⊎_elim}
use Rattle.formula.specs.Atoms.{Atom, value}
use Rattle.formula.specs.Ltl.{Ltl}
use Rattle.meaning.specs.Systems.{HasArc, Initial}
use Rattle.tableau.specs.Along.{Follows}
use Rattle.tableau.specs.Graphs.{Onward, here, step}
use Rattle.tableau.specs.Opens.{OpenNode, OpenEdge}
use Rattle.seconds.specs.Claims.{SecondPart}
use Rattle.seconds.specs.Free.{ClosedDoubt}
use Rattle.seconds.specs.Known.{Known}
use Rattle.seconds.proofs.Build.{construction}
use Rattle.seconds.proofs.Draw.{extraction}
use Rattle.seconds.proofs.Freed.{free_part}
use Rattle.seconds.proofs.Traces.{Reaches, arrived, further, Doubt}

module _ (K : Known) (f : Ltl) (c : ℕ) (z : Atom f) where
  abbrev Node : Type 0
  Node = ℕ × Atom f

  -- from x by open nodes, at least one, to c
  abbrev Behind : Node → Type 0
  Behind x =
      OpenNode K.system K.opened f x × ((y : Node) × Onward Node (OpenEdge K.system K.opened f) y x × OpenNode K.system K.opened f y × ((t : ℕ) × HasArc K.system y.0 t c × Follows f t y.1 z))

  split : (s : ℕ) (a : Atom f) → Reaches K f c z s a → ((s ≡ c) × (a ≡ z)) ⊎ Behind (s, a)
  split s a arrived = inl (refl, refl)
  split s a (further t s' a' o arc fit fol rest) = inr (⊎_elim last more (split s' a' rest))
    where
      last : (s' ≡ c) × (a' ≡ z) → Behind (s, a)
      last e = ((o, fit), ((s, a), here, (o, fit), (t, subst (λ x. HasArc K.system s t x) e.0 arc, subst (λ x. Follows f t a x) e.1 fol)))

      more : Behind (s', a') → Behind (s, a)
      more b = ((o, fit), (b.1.0, step (s', a') ((o, fit), b.0, (t, arc, fol)) b.1.1, b.1.2, b.1.3))

  join : (y : Node) → OpenNode K.system K.opened f y → (t : ℕ) → HasArc K.system y.0 t c → Follows f t y.1 z → (x : Node) → Onward Node (OpenEdge K.system K.opened f) y x → Reaches K f c z x.0 x.1
  join y n t arc fol x here = further t c z n.0 arc n.1 fol arrived
  join y n t arc fol x (step x' e rest) =
      further e.2.0 x'.0 x'.1 e.0.0 e.2.1 e.0.1 e.2.2 (join y n t arc fol x' rest)

pub second_part : SecondPart
second_part K sound f c = (λ h. to (extraction K f c h), λ h. construction K sound f c (from h))
  where
    to : Doubt K f c → ClosedDoubt K f c
    to (s, a, z, root, bad, leads, shut, on) = (
      shut,
      (
        z,
        (free_part K.events f z).0 on,
        ⊎_elim
            (λ e. inl (subst (λ x. Initial K.system x) e.0 root, subst (λ x. value f x ≡ false) e.1 bad))
            (λ b. inr ((s, a), b.1.0, (b.0, root, bad), b.1.1, b.1.2, b.1.3))
            (split K f c z s a leads),
      ),
    )

    from : ClosedDoubt K f c → Doubt K f c
    from (shut, (z, kept, ways)) =
        let on = (free_part K.events f z).1 kept in
        ⊎_elim
        (λ i. (c, z, z, i.0, i.1, arrived, shut, on))
        (λ b. (b.0.0, b.0.1, z, b.2.1, b.2.2, join K f c z b.1 b.4 b.5.0 b.5.1 b.5.2 b.0 b.3, shut, on))
        ways
