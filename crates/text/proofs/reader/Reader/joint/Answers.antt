use Rattle.std.proofs.Common.{arith}
use Rattle.grammar.specs.declared.Joint.TheVariants.{Or, And, Implies, Until}
use Rattle.text.proofs.Steps.{letter_is, is_sign, no_sign}
use Rattle.text.proofs.reader.Reader.joint.Goals as goal

pub returns-in-124 : goal.returns-in-124
returns-in-124 c = is_sign Or (letter_is c.in-124.is c.in_ok-next.ensures)

pub returns-in-38 : goal.returns-in-38
returns-in-38 c = is_sign And (letter_is c.in-38.is c.in_ok-next.ensures)

pub returns-in-62 : goal.returns-in-62
returns-in-62 c = is_sign Implies (letter_is c.in-62.is c.in_ok-next.ensures)

pub returns-in-U : goal.returns-in-U
returns-in-U c = is_sign Until (letter_is c.in-U.is c.in_ok-next.ensures)

pub returns-in_default : goal.returns-in_default
returns-in_default c = no_sign c.in_ok-next.ensures (λ eq. omega arith) (λ eq. omega arith) (λ eq. omega arith) (λ eq. omega arith)
