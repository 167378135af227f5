use Rattle.std.proofs.Common.{subst}
use Rattle.std.specs.Io.KnownBytes.{Appends}
use Rattle.replies.proofs.Writing.{line_more, all_answered}
use Rattle.replies.proofs.lines.run.Goals as goal

pub loop-line-preserved : goal.loop-line-preserved
loop-line-preserved g c =
    let written = subst (λ bytes. Appends (g.W.Write.contents c.loop-line.out) (g.W.Write.contents c.write_all.new.self) bytes) c.as_slice.ensures.value c.in_ok-write_all.ensures.bytes in
    line_more c.loop-line.invariant c.in-Some.ensures.cases c.in_ok-answer.ensures written

pub returns : goal.returns
returns g c = all_answered c.loop-line.rest.now c.in_default.ensures.cases c.loop-line.invariant
