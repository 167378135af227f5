use Rattle.std.proofs.Common.{◌+◌, ◌&&◌, ◌||◌, refl, ap, ◌∙◌, ⊎_elim, arith}
use Rattle.formula.specs.Ltl.{fact, enabled, taken, neg, or, next, until}
use Rattle.formula.specs.declared.entry.Entry.TheVariants.{Fact, Enabled, Taken, Not, Or, Next, Until}
use Rattle.formula.proofs.Evaluations.{made, made_is, some_count, under, across, behind, true_value, leaf_value, not_value, next_value, or_value, until_value}
use Rattle.formula.proofs.evaluate.+evaluate.Goals as goal

pub returns-in-True : goal.returns-in-True
returns-in-True t c = made_is c.new.ensures (true_value _ c.requires.whole _ c.requires.within _ c.requires.counted c.in-True.is)

pub overflow_sub-count : goal.overflow_sub-count
overflow_sub-count t c =
    ⊎_elim
    (λ e. some_count _ c.requires.whole _ c.requires.within _ c.requires.counted (Fact e.0) e.1 refl)
    (⊎_elim
    (λ e. some_count _ c.requires.whole _ c.requires.within _ c.requires.counted (Enabled e.0) e.1 refl)
    (λ e. some_count _ c.requires.whole _ c.requires.within _ c.requires.counted (Taken e.0) e.1 refl))
    c.in-Fact.is

pub returns-in-Fact : goal.returns-in-Fact
returns-in-Fact t c =
    made_is (c.new-in-Fact.ensures ∙ ap (λ b. made b 1 1) c.bit.ensures)
    (⊎_elim
    (λ e. leaf_value _ c.requires.whole _ c.requires.within _ c.requires.counted (Fact e.0) e.1 refl (fact e.0) (λ s. refl) (λ o. refl) refl refl)
    (⊎_elim
    (λ e. leaf_value _ c.requires.whole _ c.requires.within _ c.requires.counted (Enabled e.0) e.1 refl (enabled e.0) (λ s. refl) (λ o. refl) refl refl)
    (λ e. leaf_value _ c.requires.whole _ c.requires.within _ c.requires.counted (Taken e.0) e.1 refl (taken e.0) (λ s. refl) (λ o. refl) refl refl))
    c.in-Fact.is)

pub evaluate-part-requires : goal.evaluate-part-requires
evaluate-part-requires t c =
    let u = under _ c.requires.whole _ c.requires.within _ c.requires.counted Not c.in-Not.is neg refl (λ f s. refl) in
    (omega (arith, u.some, c.decreases), (omega (arith, c.requires.within), (c.requires.whole, (omega (arith, u.counted), c.requires.few))))

pub returns-in-Not : goal.returns-in-Not
returns-in-Not t c = made_is c.new-in-Not.ensures (not_value _ c.requires.whole _ c.requires.within _ c.requires.counted c.in-Not.is c.evaluate-part.ensures)

pub overflow_sub-count-in-Next : goal.overflow_sub-count-in-Next
overflow_sub-count-in-Next t c = (under _ c.requires.whole _ c.requires.within _ c.requires.counted Next c.in-Next.is next refl (λ f s. refl)).enough

pub evaluate-part-requires-in-Next : goal.evaluate-part-requires-in-Next
evaluate-part-requires-in-Next t c =
    let u = under _ c.requires.whole _ c.requires.within _ c.requires.counted Next c.in-Next.is next refl (λ f s. refl) in
    (omega (arith, u.some, c.decreases), (omega (arith, c.requires.within), (c.requires.whole, (u.counted, omega (arith, c.requires.few)))))

pub overflow_sub-count-in-Next-2 : goal.overflow_sub-count-in-Next-2
overflow_sub-count-in-Next-2 t c = (under _ c.requires.whole _ c.requires.within _ c.requires.counted Next c.in-Next.is next refl (λ f s. refl)).enough

pub returns-in-Next : goal.returns-in-Next
returns-in-Next t c =
    made_is (c.new-in-Next.ensures ∙ ap (λ b. made b (c.evaluate-part-in-Next.result.entries + 1) (c.evaluate-part-in-Next.result.elementary + 1)) c.bit-in-Next.ensures)
    (next_value _ c.requires.whole _ c.requires.within _ c.requires.counted c.in-Next.is c.evaluate-part-in-Next.ensures)

pub evaluate-last-requires : goal.evaluate-last-requires
evaluate-last-requires t c =
    let a = across _ c.requires.whole _ c.requires.within _ c.requires.counted Or c.in-Or.is or refl (λ f g s. refl) in
    (omega (arith, a.some, c.decreases), (omega (arith, c.requires.within), (c.requires.whole, (omega (arith, a.last_counted), c.requires.few))))

pub overflow_sub-at-in-Or-3 : goal.overflow_sub-at-in-Or-3
overflow_sub-at-in-Or-3 t c =
    let a = across _ c.requires.whole _ c.requires.within _ c.requires.counted Or c.in-Or.is or refl (λ f g s. refl) in
    omega (arith, (behind _ c.requires.whole _ c.requires.within _ c.requires.counted a c.evaluate-last.ensures).room)

pub evaluate-first-requires : goal.evaluate-first-requires
evaluate-first-requires t c =
    let a = across _ c.requires.whole _ c.requires.within _ c.requires.counted Or c.in-Or.is or refl (λ f g s. refl) in
    let b = behind _ c.requires.whole _ c.requires.within _ c.requires.counted a c.evaluate-last.ensures in
    (omega (arith, b.room, c.decreases), (omega (arith, c.requires.within), (c.requires.whole, (omega (arith, b.counted), omega (arith, c.requires.few)))))

pub returns-in-Or : goal.returns-in-Or
returns-in-Or t c = made_is c.new-in-Or.ensures (or_value _ c.requires.whole _ c.requires.within _ c.requires.counted c.in-Or.is c.evaluate-last.ensures c.evaluate-first.ensures)

pub overflow_sub-count-in-Until : goal.overflow_sub-count-in-Until
overflow_sub-count-in-Until t c =
    let a = across _ c.requires.whole _ c.requires.within _ c.requires.counted Until c.in-Until.is until refl (λ f g s. refl) in
    omega (arith, a.enough)

pub evaluate-last-requires-in-Until : goal.evaluate-last-requires-in-Until
evaluate-last-requires-in-Until t c =
    let a = across _ c.requires.whole _ c.requires.within _ c.requires.counted Until c.in-Until.is until refl (λ f g s. refl) in
    (omega (arith, a.some, c.decreases), (omega (arith, c.requires.within), (c.requires.whole, (a.last_counted, omega (arith, c.requires.few)))))

pub overflow_sub-at-in-Until-3 : goal.overflow_sub-at-in-Until-3
overflow_sub-at-in-Until-3 t c =
    let a = across _ c.requires.whole _ c.requires.within _ c.requires.counted Until c.in-Until.is until refl (λ f g s. refl) in
    omega (arith, (behind _ c.requires.whole _ c.requires.within _ c.requires.counted a c.evaluate-last-in-Until.ensures).room)

pub overflow_sub-count-in-Until-2 : goal.overflow_sub-count-in-Until-2
overflow_sub-count-in-Until-2 t c =
    let a = across _ c.requires.whole _ c.requires.within _ c.requires.counted Until c.in-Until.is until refl (λ f g s. refl) in
    omega (arith, a.enough)

pub evaluate-first-requires-in-Until : goal.evaluate-first-requires-in-Until
evaluate-first-requires-in-Until t c =
    let a = across _ c.requires.whole _ c.requires.within _ c.requires.counted Until c.in-Until.is until refl (λ f g s. refl) in
    let b = behind _ c.requires.whole _ c.requires.within _ c.requires.counted a c.evaluate-last-in-Until.ensures in
    (omega (arith, b.room, c.decreases), (omega (arith, c.requires.within), (c.requires.whole, (b.counted, omega (arith, c.requires.few)))))

pub overflow_sub-count-in-Until-4 : goal.overflow_sub-count-in-Until-4
overflow_sub-count-in-Until-4 t c =
    let a = across _ c.requires.whole _ c.requires.within _ c.requires.counted Until c.in-Until.is until refl (λ f g s. refl) in
    omega (arith, a.enough)

pub returns-in-Until : goal.returns-in-Until
returns-in-Until t c =
    let first = c.evaluate-first-in-Until.result in
    let last = c.evaluate-last-in-Until.result in
    made_is
    (c.new-in-Until.ensures ∙ ap (λ b. made (last.holds || (first.holds && b)) (first.entries + last.entries + 1) (first.elementary + last.elementary + 1)) c.bit-in-Until.ensures)
    (until_value _ c.requires.whole _ c.requires.within _ c.requires.counted c.in-Until.is c.evaluate-last-in-Until.ensures c.evaluate-first-in-Until.ensures)

pub overflow_add-part : goal.overflow_add-part
overflow_add-part t c =
    let u = under _ c.requires.whole _ c.requires.within _ c.requires.counted Not c.in-Not.is neg refl (λ f s. refl) in
    omega (arith, u.fits, c.evaluate-part.ensures.size_is)

pub overflow_add-part-in-Next : goal.overflow_add-part-in-Next
overflow_add-part-in-Next t c =
    let u = under _ c.requires.whole _ c.requires.within _ c.requires.counted Next c.in-Next.is next refl (λ f s. refl) in
    omega (arith, u.fits, c.evaluate-part-in-Next.ensures.size_is)

pub overflow_add-size : goal.overflow_add-size
overflow_add-size t c =
    let a = across _ c.requires.whole _ c.requires.within _ c.requires.counted Or c.in-Or.is or refl (λ f g s. refl) in
    omega (arith, (behind _ c.requires.whole _ c.requires.within _ c.requires.counted a c.evaluate-last.ensures).fits, c.evaluate-first.ensures.size_is)

pub overflow_add-size-in-Or : goal.overflow_add-size-in-Or
overflow_add-size-in-Or t c =
    let a = across _ c.requires.whole _ c.requires.within _ c.requires.counted Or c.in-Or.is or refl (λ f g s. refl) in
    omega (arith, (behind _ c.requires.whole _ c.requires.within _ c.requires.counted a c.evaluate-last.ensures).fits, c.evaluate-first.ensures.size_is)

pub overflow_add-size-in-Until : goal.overflow_add-size-in-Until
overflow_add-size-in-Until t c =
    let a = across _ c.requires.whole _ c.requires.within _ c.requires.counted Until c.in-Until.is until refl (λ f g s. refl) in
    omega (arith, (behind _ c.requires.whole _ c.requires.within _ c.requires.counted a c.evaluate-last-in-Until.ensures).fits, c.evaluate-first-in-Until.ensures.size_is)

pub overflow_add-size-in-Until-2 : goal.overflow_add-size-in-Until-2
overflow_add-size-in-Until-2 t c =
    let a = across _ c.requires.whole _ c.requires.within _ c.requires.counted Until c.in-Until.is until refl (λ f g s. refl) in
    omega (arith, (behind _ c.requires.whole _ c.requires.within _ c.requires.counted a c.evaluate-last-in-Until.ensures).fits, c.evaluate-first-in-Until.ensures.size_is)
