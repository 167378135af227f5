-- Numbers of one or two digits. Assumes nothing.
use Rattle.std.proofs.Common.{◌≡◌, ℕ, ◌+◌, ◌-◌, ◌*◌, ◌/◌, ◌%◌, ◌≤◌, ltb, [], ◌∷◌, ap, ◌∙◌, arith}
use Rattle.std.proofs.lemmas.Bool.{cond-true, cond-false, lt-ltb, le-ltb}
use Rattle.grammar.specs.Phrases.{digits}

pub one_digit : (a : ℕ) → 48 ≤ a → a ≤ 57 → digits (a - 48) ≡ a ∷ []
one_digit a lo hi =
    let back : 48 + (a - 48) ≡ a = omega arith in
    cond-true (ltb (a - 48) 10) _ _ (lt-ltb (a - 48) 10 (omega arith)) ∙ ap (λ x. x ∷ []) back

pub two_digits : (a b : ℕ) → 49 ≤ a → a ≤ 57 → 48 ≤ b → b ≤ 57 → digits ((a - 48) * 10 + (b - 48)) ≡ a ∷ b ∷ []
two_digits a b lo hi lo' hi' =
    let n = (a - 48) * 10 + (b - 48) in
    let first : 48 + n / 10 ≡ a = omega arith in
    let last : 48 + n % 10 ≡ b = omega arith in
    cond-false (ltb n 10) _ _ (le-ltb n 10 (omega arith)) ∙ (λ i. first i ∷ last i ∷ [])
