use Rattle.std.proofs.Common.{◌/◌, ◌%◌, ◌^◌, eqb, sym, ap, ◌∙◌, arith}
use Rattle.std.proofs.Math.Nat.{div-eq_of_lt}
use Rattle.std.proofs.Math.Pow.{pow_mono}
use Rattle.std.proofs.lemmas.Bool.{le-ltb}
use Rattle.std.proofs.lemmas.Nat.{and_mask}
use Rattle.formula.proofs.evaluate.bit.Goals as goal

pub returns-then-place-lt32 : goal.returns-then-place-lt32
returns-then-place-lt32 c = ap (λ n. eqb n 1) (and_mask (c.args.word / 2 ^ c.args.place) 1)

-- past the word's end the quotient is 0
pub returns-else-place-lt32 : goal.returns-else-place-lt32
returns-else-place-lt32 c =
    let small = div-eq_of_lt {n = c.args.word} {m = 2 ^ c.args.place} (omega (arith, c.ranges.word.fits, pow_mono c.if-place-lt32.false)) in
    le-ltb c.args.place 32 c.if-place-lt32.false ∙ sym (ap (λ q. eqb (q % 2) 1) small)
