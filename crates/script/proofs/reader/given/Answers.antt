use Rattle.std.proofs.Common.{[], ◌∷◌, get_or, refl, subst}
use Rattle.std.proofs.lemmas.Option.{MatchOption-at_some, MatchOption-at_none}
use Rattle.script.specs.Values.{Numbers}
use Rattle.script.specs.Says.{Given}
use Rattle.script.proofs.Cuts.{first_not_blank}
use Rattle.script.proofs.Once.{alone_given, just_one, just_two}
use Rattle.script.proofs.reader.given.Goals as goal

pub returns-in-Alone : goal.returns-in-Alone
returns-in-Alone c =
    rw (c.then_some.ensures, c.in-Alone.is) (alone_given c.in-Alone.word c.args.rest.now c.first_word.result c.is_none.result c.first_word.ensures (λ p first. first_not_blank first) c.is_none.ensures)

pub returns-in_default : goal.returns-in_default
returns-in_default c = λ m g.
    let is = subst (λ w. Given w c.args.rest.now m) c.in-One.is g in
    MatchOption-at_none _ _ c.in_default.is c.in_ok-all-in-One.ensures (is.0 ∷ []) refl is.2

pub returns-in-Some : goal.returns-in-Some
returns-in-Some c =
    let all = c.in-Some.all in
    let has = MatchOption-at_some _ _ all c.in-Some.is c.in_ok-all-in-One.ensures in
    rw c.in-One.is (get_or all 0 0, refl, subst (Numbers c.args.rest.now) (just_one all has.0) has.1)

pub returns-in_default-2 : goal.returns-in_default-2
returns-in_default-2 c = λ m g.
    let is = subst (λ w. Given w c.args.rest.now m) c.in-Arc.is g in
    MatchOption-at_none _ _ c.in_default-2.is c.in_ok-all-in-Arc.ensures (is.0 ∷ is.1 ∷ []) refl is.3

pub returns-in-Some-2 : goal.returns-in-Some-2
returns-in-Some-2 c =
    let all = c.in-Some-2.all in
    let has = MatchOption-at_some _ _ all c.in-Some-2.is c.in_ok-all-in-Arc.ensures in
    rw c.in-Arc.is (get_or all 0 0, get_or all 1 0, refl, subst (Numbers c.args.rest.now) (just_two all has.0) has.1)
