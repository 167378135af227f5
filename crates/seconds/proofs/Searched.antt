-- The verdicts by the graphs of numbers. Assumes nothing.
use Rattle.std.proofs.Common.{ℕ, List, sym, ap, ◌∙◌, subst, inl, inr, ⊎_elim}
use Rattle.formula.specs.Atoms.{value, atom}
use Rattle.formula.specs.Ltl.{Ltl}
use Rattle.meaning.specs.Systems.{System}
use Rattle.tableau.specs.Along.{Follows}
use Rattle.tableau.specs.Numbers.{Lists, state_of, atom_of}
use Rattle.tableau.proofs.Coding.{coded}
use Rattle.tableau.proofs.Numbered.{number, steps_to, steps_from, path_to, path_from, start_to, open_numbers}
use Rattle.tableau.proofs.Open.{open_part}
use Rattle.seconds.specs.Claims.{BrokenNumbers, SpoiledNumbers, SearchesDecide}
use Rattle.seconds.specs.Free.{FreeKept, ClosedDoubt}
use Rattle.seconds.specs.Known.{Known, Broken}
use Rattle.seconds.specs.Numbers.{ClosedNumberDoubt}
use Rattle.seconds.specs.Verdicts.{broken, holds, incomplete}
use Rattle.seconds.proofs.Closed.{second_part}
use Rattle.seconds.proofs.Judged.{holds_else}
use Rattle.seconds.proofs.Numbering.{free_numbers}

pub broken_numbers : BrokenNumbers
broken_numbers K book lists f =
    let a = open_part K.system K.opened f in
    let b = open_numbers K.system K.opened book f lists in
    (λ h. b.0 (a.0 h), λ h. a.1 (b.1 h))

module _ (K : Known) (book : List ℕ) (lists : Lists book K.opened) (f : Ltl) (c : ℕ) where
  abbrev M : System
  M = K.system

  to : ClosedDoubt K f c → ClosedNumberDoubt K book f c
  to (shut, (z, kept, ways)) =
      let (n, l, e) = coded f z in (
        shut,
        (
          n,
          l,
          (free_numbers K.events f n l).0 (subst (FreeKept K.events f) (sym e) kept),
          ⊎_elim
              (λ i. inl (i.0, ap (value f) e ∙ i.1))
              (λ (x, y, start, path, node, (t, arc, fol)).
              let (u, lu, su, au) = number M K.opened book f lists x.0 x.1 start.0.0 in
              let (v, lv, sv, av) = number M K.opened book f lists y.0 y.1 node.0 in
              inr (
                u,
                v,
                start_to M K.opened book f lists u x (lu, su, au) start,
                path_to M K.opened book f lists y x path u v (lu, su, au) (lv, sv, av),
                lv,
                steps_to M K.opened book f lists v y (lv, sv, av) node t c (atom f 0 n) arc (subst (λ b. Follows f t y.1 b) (sym e) fol),
              ))
              ways,
        ),
      )

  from : ClosedNumberDoubt K book f c → ClosedDoubt K f c
  from (shut, (z, l, kept, ways)) = (
    shut,
    (
      atom f 0 z,
      (free_numbers K.events f z l).1 kept,
      ⊎_elim
          (λ i. inl i)
          (λ (u, v, start, path, lv, steps).
          let s = steps_from M K.opened book f lists v lv c (atom f 0 z) steps in
          let q = path_from M K.opened book f lists v u path s.0 in
          inr (
            (state_of book f u, atom_of f u),
            (state_of book f v, atom_of f v),
            (q.0, start.1, start.2),
            q.1,
            s.0,
            (steps.0, steps.1, s.1),
          ))
          ways,
    ),
  )

pub spoiled_numbers : SpoiledNumbers
spoiled_numbers K sound book lists f c =
    let a = second_part K sound f c in
    (λ h. to K book lists f c (a.0 h), λ h. a.1 (from K book lists f c h))

pub searches_decide : SearchesDecide
searches_decide K sound book lists f open_answer closed_answer =
    ⊎_elim
    (λ yes. let b = (broken_numbers K book lists f).1 yes in (broken b.0, (b.1, b.2, b.3)))
    (λ no_open.
    let whole : Broken K f → ⊥ = λ b. no_open ((broken_numbers K book lists f).0 b) in
    ⊎_elim
    (λ yes. (incomplete yes.0, (whole, (spoiled_numbers K sound book lists f yes.0).1 yes.1)))
    (λ no_closed. (holds, holds_else K f whole (λ c s. no_closed (c, (spoiled_numbers K sound book lists f c).0 s))))
    closed_answer)
    open_answer
