use Rattle.std.proofs.Common.{◌≡◌, ◌+◌, ◌-◌, ◌<◌, ◌∷◌, Some, length, drop, get_or, sym, refl, ap, ◌∙◌, arith, rules}
use Rattle.std.proofs.lemmas.List.{drop_more, length-drop}
use Rattle.std.specs.Char.{digit_value}
use Rattle.text.specs.Spelled.{left}
use Rattle.text.proofs.Steps.{digit_is, two_read}
use Rattle.text.proofs.reader.Reader.number.Goals as goal

pub returns : goal.returns
returns c =
    let a = c.in_ok-next.field-0 in
    let tens = c.in_ok-tens.tens in
    let some : c.to_digit.result ≡ Some tens = grind arith in
    let told : (digit_value a < 10) × (tens ≡ digit_value a) = search (rules, c.to_digit.ensures.value, some) in
    let is : tens ≡ a - 48 = told.1 ∙ digit_is a told.0 in
    let d = c.in-Some.ensures in
    let r' = c.next.new.self in
    let within : r'.at < length r'.text.now = omega (arith, ap length d.text, length-drop r'.at r'.text.now) in
    let here = drop_more r'.text.now r'.at 0 within in
    let code : get_or r'.text.now r'.at 0 ≡ d.code = let e = sym here ∙ d.text in cc in
    let char : left r' ≡ d.code ∷ drop (r'.at + 1) r'.text.now = here ∙ ap (λ x. x ∷ drop (r'.at + 1) r'.text.now) code in
    two_read c.args.name c.in_ok-next.ensures told.0 (λ e. c.if-tens-eq0.false (omega (arith, is, e))) is d char refl (omega (arith, c.if-n-limit.false, c.limit.ensures))
