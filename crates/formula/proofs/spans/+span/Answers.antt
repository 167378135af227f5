use Rattle.std.proofs.Common.{arith}
use Rattle.formula.proofs.Sizes.{size_leaf, size_one, size_two}
use Rattle.formula.proofs.spans.+span.Goals as goal

pub returns-in-True : goal.returns-in-True
returns-in-True t c = record { value = size_leaf _ c.requires.whole _ c.requires.within c.in-True.is; bound = omega arith }

pub overflow_sub-at : goal.overflow_sub-at
overflow_sub-at t c = (size_one _ c.requires.whole _ c.requires.within c.in-Not.is).some

pub span-requires : goal.span-requires
span-requires t c =
    let s = size_one _ c.requires.whole _ c.requires.within c.in-Not.is in
    (omega (arith, s.some, c.decreases), (omega (arith, c.requires.within), c.requires.whole))

pub returns-in-Not : goal.returns-in-Not
returns-in-Not t c =
    let s = size_one _ c.requires.whole _ c.requires.within c.in-Not.is in
    record { value = omega (arith, s.is, c.span.ensures.value); bound = omega (arith, s.fits, c.span.ensures.value) }

pub overflow_sub-at-in-Or : goal.overflow_sub-at-in-Or
overflow_sub-at-in-Or t c = (size_two _ c.requires.whole _ c.requires.within c.in-Or.is).some

pub span-last-requires : goal.span-last-requires
span-last-requires t c =
    let s = size_two _ c.requires.whole _ c.requires.within c.in-Or.is in
    (omega (arith, s.some, c.decreases), (omega (arith, c.requires.within), c.requires.whole))

pub overflow_sub-at-in-Or-3 : goal.overflow_sub-at-in-Or-3
overflow_sub-at-in-Or-3 t c = omega (arith, (size_two _ c.requires.whole _ c.requires.within c.in-Or.is).room, c.span-last.ensures.value)

pub returns-in-Or : goal.returns-in-Or
returns-in-Or t c =
    let s = size_two _ c.requires.whole _ c.requires.within c.in-Or.is in
    let last = c.span-last.ensures.value in
    let first = rw last at c.span-first.ensures.value in
    record { value = omega (arith, s.is, first, last); bound = omega (arith, s.fits, first, last) }
