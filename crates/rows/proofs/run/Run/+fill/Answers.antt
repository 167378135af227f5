use Rattle.std.proofs.Common.{◌+◌, ◌-◌, ◌*◌, eqb, length, ap, ◌∙◌, arith, Fits-le}
use Rattle.rows.specs.Cells.{run_of}
use Rattle.rows.proofs.Backs.{back_low}
use Rattle.rows.proofs.Filling.{leaf_stands, unary_stands, binary_stands, leaf_size, one_fits, two_some, two_fits, leaf_row, one_row, two_row}
use Rattle.rows.proofs.run.Run.+fill.Goals as goal

pub row-requires : goal.row-requires
row-requires g t c = record {
  rows = (leaf_stands _ c.in-True.is _ _ _ _, c.requires.room);
}

pub overflow_sub-last : goal.overflow_sub-last
overflow_sub-last g t c = (one_fits c.args.formula.now _ c.entries.ensures _ c.requires.within c.in-Not.is c.requires.below).high

pub overflow_sub-at : goal.overflow_sub-at
overflow_sub-at g t c = (one_fits c.args.formula.now _ c.entries.ensures _ c.requires.within c.in-Not.is c.requires.below).some

pub fill-requires : goal.fill-requires
fill-requires g t c κs within =
    let f = one_fits c.args.formula.now _ c.entries.ensures _ c.requires.within c.in-Not.is c.requires.below in
    (omega (arith, f.some, c.decreases), (within, (omega (arith, c.requires.within), (omega (arith, f.low, f.high), omega (arith, f.high, c.requires.room)))))

pub row-requires-in-Not : goal.row-requires-in-Not
row-requires-in-Not g t c =
    let f = one_fits c.args.formula.now _ c.entries.ensures _ c.requires.within c.in-Not.is c.requires.below in
    record {
      rows = (unary_stands _ c.in-Not.is _ _ _ _ (omega (arith, f.high)), omega (arith, c.requires.room, c.fill.auto.cells));
    }

pub overflow_sub-at-in-Or : goal.overflow_sub-at-in-Or
overflow_sub-at-in-Or g t c = two_some c.args.formula.now _ c.entries.ensures _ c.requires.within c.in-Or.is

pub overflow_sub-last-in-Or : goal.overflow_sub-last-in-Or
overflow_sub-last-in-Or g t c =
    let f = two_fits c.args.formula.now _ c.entries.ensures _ c.requires.within c.in-Some.skip c.in-Or.is c.in-Some.ensures.1 c.requires.below in
    omega (arith, f.low, f.first)

pub overflow_mul-first : goal.overflow_mul-first
overflow_mul-first g t c =
    let f = two_fits c.args.formula.now _ c.entries.ensures _ c.requires.within c.in-Some.skip c.in-Or.is c.in-Some.ensures.1 c.requires.below in
    Fits-le (omega (arith, f.low)) c.ranges.out

pub overflow_sub-first : goal.overflow_sub-first
overflow_sub-first g t c =
    let f = two_fits c.args.formula.now _ c.entries.ensures _ c.requires.within c.in-Some.skip c.in-Or.is c.in-Some.ensures.1 c.requires.below in
    omega (arith, f.low, f.first)

pub overflow_sub-at-in-Or-2 : goal.overflow_sub-at-in-Or-2
overflow_sub-at-in-Or-2 g t c = two_some c.args.formula.now _ c.entries.ensures _ c.requires.within c.in-Or.is

pub overflow_sub-at-in-Or-3 : goal.overflow_sub-at-in-Or-3
overflow_sub-at-in-Or-3 g t c = (two_fits c.args.formula.now _ c.entries.ensures _ c.requires.within c.in-Some.skip c.in-Or.is c.in-Some.ensures.1 c.requires.below).room

pub fill-requires-in-Or : goal.fill-requires-in-Or
fill-requires-in-Or g t c κs within =
    let f = two_fits c.args.formula.now _ c.entries.ensures _ c.requires.within c.in-Some.skip c.in-Or.is c.in-Some.ensures.1 c.requires.below in
    (omega (arith, f.some, c.decreases), (within, (omega (arith, c.requires.within), (omega (arith, f.low, f.first, f.last), omega (arith, f.low, f.first, c.requires.room)))))

pub overflow_sub-at-in-Or-4 : goal.overflow_sub-at-in-Or-4
overflow_sub-at-in-Or-4 g t c = two_some c.args.formula.now _ c.entries.ensures _ c.requires.within c.in-Or.is

pub fill-requires-in-Or-2 : goal.fill-requires-in-Or-2
fill-requires-in-Or-2 g t c κs within =
    let f = two_fits c.args.formula.now _ c.entries.ensures _ c.requires.within c.in-Some.skip c.in-Or.is c.in-Some.ensures.1 c.requires.below in
    (omega (arith, f.some, c.decreases), (within, (omega (arith, c.requires.within), (omega (arith, f.low, f.first, f.skip_is), omega (arith, f.low, f.first, c.requires.room, c.fill-in-Or.auto.cells)))))

pub row-requires-in-Or : goal.row-requires-in-Or
row-requires-in-Or g t c =
    let f = two_fits c.args.formula.now _ c.entries.ensures _ c.requires.within c.in-Some.skip c.in-Or.is c.in-Some.ensures.1 c.requires.below in
    record {
      rows = (binary_stands _ _ _ _ _ (omega (arith, f.low, f.first, f.last)) (omega (arith, f.low, f.first)), omega (arith, c.requires.room, c.fill-in-Or.auto.cells, c.fill-in-Or-2.auto.cells));
    }

pub returns-in-True : goal.returns-in-True
returns-in-True g t c =
    let a = c.args in
    let m = length a.self.now.states.now in
    record {
      row = λ p h. c.row.ensures.row p h ∙ leaf_row a.formula.now _ c.entries.ensures _ c.requires.within (g.S.States.system a.states.now) (run_of a.self.now) (back_low a.self.now) c.in-True.is _ _ p;
      same = λ k h. c.row.ensures.same k (omega (arith, ap (λ n. n * m) (leaf_size a.formula.now _ c.entries.ensures _ c.requires.within c.in-True.is)));
    }

pub returns-in-Not : goal.returns-in-Not
returns-in-Not g t c =
    let a = c.args in
    let f = one_fits a.formula.now _ c.entries.ensures _ c.requires.within c.in-Not.is c.requires.below in
    record {
      row = λ p h. c.row-in-Not.ensures.row p h ∙ one_row a.formula.now _ c.entries.ensures _ c.requires.within (g.S.States.system a.states.now) (run_of a.self.now) (back_low a.self.now) c.in-Not.is _ _ c.fill.ensures.row c.fill.ensures.row p h;
      same = λ k h. c.row-in-Not.ensures.same k (omega (arith, f.all, f.high)) ∙ c.fill.ensures.same k (omega (arith, f.all, f.high));
    }

pub returns-in-Some : goal.returns-in-Some
returns-in-Some g t c =
    let a = c.args in
    let m = length a.self.now.states.now in
    let skip = c.in-Some.skip in
    let f = two_fits a.formula.now _ c.entries.ensures _ c.requires.within skip c.in-Or.is c.in-Some.ensures.1 c.requires.below in
    let kept = c.fill-in-Or-2.ensures.same in
    record {
      row = λ p h.
          c.row-in-Or.ensures.row p h
          ∙ two_row a.formula.now _ c.entries.ensures _ c.requires.within (g.S.States.system a.states.now) (run_of a.self.now) (back_low a.self.now) c.in-Or.is skip c.in-Some.ensures.1 _ _
          (λ q lt. ap (λ x. eqb x 1) (kept (a.out - m - skip * m + q) (omega (arith, f.low, f.first, f.last, f.skip_is))) ∙ c.fill-in-Or.ensures.row q lt)
          c.fill-in-Or-2.ensures.row p h;
      same = λ k h.
          c.row-in-Or.ensures.same k (omega (arith, f.all, f.low))
          ∙ kept k (omega (arith, f.all, f.low, f.skip_is, f.first))
          ∙ c.fill-in-Or.ensures.same k (omega (arith, f.all, f.low, f.first));
    }
