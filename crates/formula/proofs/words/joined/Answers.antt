use Rattle.std.proofs.Common.{◌≡◌, ◌+◌, ◌-◌, true, [], take, sym, ap, ◌∙◌, subst, inl, inr, arith, take_all}
use Rattle.std.proofs.lemmas.List.{take_more}
use Rattle.std.proofs.lemmas.List.Sums.{fold_more}
use Rattle.formula.specs.declared.entry.Entry.TheVariants.{True}
use Rattle.formula.specs.Table.{arity}
use Rattle.formula.specs.Stack.{depth, sound, stack}
use Rattle.formula.proofs.Stacks.{sound_push, stacked}
use Rattle.formula.proofs.words.joined.Goals as goal

pub loop-i-preserved : goal.loop-i-preserved
loop-i-preserved c =
    let es = c.args.entries.now in
    let i = c.loop-i.i in
    let inside = c.loop-i-test.true in
    let was = c.loop-i.invariant.0 in
    let parts = c.arity-parts.ensures in
    let more = fold_more (λ n e. n - arity e + 1) 0 es i True inside in (
      omega (arith, was, parts, more),
      subst (λ l. sound 0 l ≡ true) (sym (take_more es i True inside)) (sound_push (take i es) _ 0 c.loop-i.invariant.1 (omega (arith, was, parts, c.if-depth-parts.false))),
      omega (arith, c.loop-i.invariant.2),
      omega arith,
    )

pub returns-then-depth-parts : goal.returns-then-depth-parts
returns-then-depth-parts c =
    let s = stacked (take c.loop-i.i c.args.entries.now) [] c.loop-i.invariant.1 in
    inl (record {
      within = c.loop-i-test.true;
      before = stack [] (take c.loop-i.i c.args.entries.now);
      side_by_side = s.table;
      fewer = omega (arith, c.loop-i.invariant.0, s.high, c.arity-parts.ensures, c.if-depth-parts.true);
    })

pub returns-then-depth-eq1 : goal.returns-then-depth-eq1
returns-then-depth-eq1 c =
    let all = take_all c.loop-i.i c.args.entries.now c.loop-i-test.false in
    (subst (λ l. sound 0 l ≡ true) all c.loop-i.invariant.1, sym (ap (depth 0) all) ∙ sym c.loop-i.invariant.0 ∙ c.if-depth-eq1.true)

pub returns-else-depth-eq1 : goal.returns-else-depth-eq1
returns-else-depth-eq1 c =
    let es = c.args.entries.now in
    let all = take_all c.loop-i.i es c.loop-i-test.false in
    let s = stacked es [] (subst (λ l. sound 0 l ≡ true) all c.loop-i.invariant.1) in
    inr (
      omega arith,
      record {
        all = stack [] es;
        side_by_side = s.table;
        not_one = λ one. c.if-depth-eq1.false (c.loop-i.invariant.0 ∙ ap (depth 0) all ∙ sym s.high ∙ one);
      },
    )
