use Rattle.std.proofs.Common.{◌≡◌, sym, ap, ◌∙◌, arith}
use Rattle.std.proofs.lemmas.Result.{err_from_is_err_and}
use Rattle.grammar.specs.Phrases.{letter}
use Rattle.grammar.specs.declared.Name.TheVariants.{Fact, Enabled, Taken}
use Rattle.text.proofs.Steps.{letter_is}
use Rattle.text.proofs.Forming.{none_begins, fails_first, fails_one, fails_op, fails_two, fails_shut, fails_prefix, is_truth, is_prefix, is_two, name_cases}
use Rattle.text.proofs.reader.Reader.+phrase.Goals as goal
use Rattle.text.proofs.reader.Reader.+phrase.Goals.{in-33, in-X, in-F, in-G}

pub returns-in-T : goal.returns-in-T
returns-in-T t c = is_truth (letter_is c.in-T.is c.in_ok-next.ensures) c.add.ensures

pub returns-in-p : goal.returns-in-p
returns-in-p t c = name_cases c.args.self.now c.next.new.self c.named.new.self c.args.out.now c.named.new.out c.named.result Fact (letter_is c.in-p.is c.in_ok-next.ensures) c.named.ensures

pub returns-in-e : goal.returns-in-e
returns-in-e t c = name_cases c.args.self.now c.next.new.self c.named-in-e.new.self c.args.out.now c.named-in-e.new.out c.named-in-e.result Enabled (letter_is c.in-e.is c.in_ok-next.ensures) c.named-in-e.ensures

pub returns-in-91 : goal.returns-in-91
returns-in-91 t c = name_cases c.args.self.now c.next.new.self c.named-in-91.new.self c.args.out.now c.named-in-91.new.out c.named-in-91.result Taken (letter_is c.in-91.is c.in_ok-next.ensures) c.named-in-91.ensures

pub returns-in_err-phrase-in-40 : goal.returns-in_err-phrase-in-40
returns-in_err-phrase-in-40 t c = let q = err_from_is_err_and c.from_residual-in_err-phrase-in-40.result c.from_residual-in_err-phrase-in-40.ensures.1 in rw (q.1, q.2) (fails_one (letter_is c.in-40.is c.in_ok-next.ensures) c.in_err-phrase-in-40.ensures)

pub returns-in_err-joint-in-40 : goal.returns-in_err-joint-in-40
returns-in_err-joint-in-40 t c = let q = err_from_is_err_and c.from_residual-in_err-joint-in-40.result c.from_residual-in_err-joint-in-40.ensures.1 in rw (q.1, q.2) (fails_op (letter_is c.in-40.is c.in_ok-next.ensures) c.in_ok-phrase-in-40.ensures.took c.in_err-joint-in-40.ensures)

pub returns-in_err-phrase-in-40-2 : goal.returns-in_err-phrase-in-40-2
returns-in_err-phrase-in-40-2 t c = let q = err_from_is_err_and c.from_residual-in_err-phrase-in-40-2.result c.from_residual-in_err-phrase-in-40-2.ensures.1 in rw (q.1, q.2) (fails_two (letter_is c.in-40.is c.in_ok-next.ensures) c.in_ok-phrase-in-40.ensures.took c.in_ok-joint-in-40.ensures c.in_err-phrase-in-40-2.ensures)

pub returns-in_err-expect-in-40 : goal.returns-in_err-expect-in-40
returns-in_err-expect-in-40 t c = let q = err_from_is_err_and c.from_residual-in_err-expect-in-40.result c.from_residual-in_err-expect-in-40.ensures.1 in rw (q.1, q.2) (fails_shut (letter_is c.in-40.is c.in_ok-next.ensures) c.in_ok-phrase-in-40.ensures.took c.in_ok-joint-in-40.ensures c.in_ok-phrase-in-40-2.ensures.took c.in_err-expect-in-40.ensures)

pub returns-in-40 : goal.returns-in-40
returns-in-40 t c = is_two c.in_ok-joint-in-40.joint (letter_is c.in-40.is c.in_ok-next.ensures) c.in_ok-phrase-in-40.ensures c.in_ok-joint-in-40.ensures c.add_between.ensures c.in_ok-phrase-in-40-2.ensures c.in_ok-expect-in-40.ensures c.add_behind.ensures

pub returns-in_default : goal.returns-in_default
returns-in_default t c = fails_first c.in_ok-next.ensures (none_begins c.in_ok-next.field-0 (λ eq. omega arith) (λ eq. omega arith) (λ eq. omega arith) (λ eq. omega arith) (λ eq. omega arith) (λ eq. omega arith) (λ eq. omega arith) (λ eq. omega arith) (λ eq. omega arith))

pub returns-in_err-phrase : goal.returns-in_err-phrase
returns-in_err-phrase t c =
    let q = err_from_is_err_and c.from_residual-in_err-phrase.result c.from_residual-in_err-phrase.ensures.1 in
    let x = c.match-branch-2.prefix in
    let at : c.in_ok-next.field-0 ≡ letter x =
    elim c.match-branch-2.branch [
      | in-33 w ↦ w.in-33.is ∙ ap letter (sym w.prefix-is)
      | in-X w ↦ w.in-X.is ∙ ap letter (sym w.prefix-is)
      | in-F w ↦ w.in-F.is ∙ ap letter (sym w.prefix-is)
      | in-G w ↦ w.in-G.is ∙ ap letter (sym w.prefix-is)
    ] in
    rw (q.1, q.2) (fails_prefix x (letter_is at c.in_ok-next.ensures) c.in_err-phrase.ensures)

pub returns : goal.returns
returns t c =
    let x = c.match-branch-2.prefix in
    let at : c.in_ok-next.field-0 ≡ letter x =
    elim c.match-branch-2.branch [
      | in-33 w ↦ w.in-33.is ∙ ap letter (sym w.prefix-is)
      | in-X w ↦ w.in-X.is ∙ ap letter (sym w.prefix-is)
      | in-F w ↦ w.in-F.is ∙ ap letter (sym w.prefix-is)
      | in-G w ↦ w.in-G.is ∙ ap letter (sym w.prefix-is)
    ] in
    is_prefix x (letter_is at c.in_ok-next.ensures) c.add_front.ensures c.in_ok-phrase.ensures c.add_rear.ensures
