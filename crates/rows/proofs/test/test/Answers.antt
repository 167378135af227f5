use Rattle.std.proofs.Common.{rules, ◌-◌, ◌*◌, ◌≤◌, eqb, length, get_or, sym, ap, ◌∙◌, subst, add-zero, arith}
use Rattle.std.proofs.lemmas.Bool.Decides.{Decides-at}
use Rattle.formula.specs.View.{tree_of}
use Rattle.formula.proofs.Views.{view_some}
use Rattle.meaning.specs.Truth.{truth}
use Rattle.meaning.proofs.Examples.{start}
use Rattle.meaning.proofs.Right.{decided}
use Rattle.rows.specs.Cells.{run_of}
use Rattle.rows.proofs.Whole.{whole}
use Rattle.rows.proofs.test.test.Goals as goal

pub fill-requires : goal.fill-requires
fill-requires g c =
    let n = c.len-n.result in
    let m = length c.args.run.now.states.now in
    let w = whole c.args.formula.now n m c.len-n.ensures.value in
    record {
      within = omega (arith, c.len-n.ensures.value, view_some c.args.formula.now);
      below = omega (arith, w.size_is, w.last);
      room = omega (arith, w.last, c.if-cells-needed.false, c.in_ok-needed.ensures);
    }

pub returns : goal.returns
returns g c =
    let a = c.args in
    let n = c.len-n.result in
    let m = length a.run.now.states.now in
    let w = whole a.formula.now n m c.len-n.ensures.value in
    let r = run_of a.run.now in
    let M = g.S.States.system a.states.now in
    let out = (n - 1) * m in
    let some = a.run.now.some in
    let enough : n * m ≤ length a.cells.now = omega (arith, c.if-cells-needed.false, c.in_ok-needed.ensures) in
    record {
      answer = (
        subst (λ k. k * m ≤ length a.cells.now) c.len-n.ensures.value enough,
        Decides-at _ (truth M r (tree_of a.formula.now) 0)
            (ap (λ k. eqb (get_or c.fill.new.cells k 0) 1) (sym (add-zero out)) ∙ c.fill.ensures.row 0 some ∙ ap (λ f. truth M r f 0) w.is)
            (decided M r (tree_of a.formula.now) some 0 (start r some)),
      );
      cells = search rules;
    }
