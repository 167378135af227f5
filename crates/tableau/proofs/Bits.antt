-- Words with given bits. Assumes nothing.
use Rattle.std.proofs.Common.{◌≡◌, ℕ, zero, suc, ◌+◌, ◌*◌, ◌/◌, ◌%◌, ◌^◌, ◌<◌, ◌≤◌, Bool, true, false, eqb, sym, refl, ap, ◌∙◌, subst, arith, pow_mono, pow-add}
use native.Mathlib.Nat.{div-eq_of_lt}
use Rattle.std.proofs.lemmas.Nat.{shr-shr}
use Rattle.formula.specs.Atoms.{bit_of}

-- a bit as a number
abbrev pub bit : Bool → ℕ
bit true = 1
bit false = 0

bit_low : (x : Bool) → bit x < 2
bit_low true = omega arith
bit_low false = omega arith

pub bit_is : (x : Bool) → eqb (bit x) 1 ≡ x
bit_is true = refl
bit_is false = refl

-- the word whose n bits are given
abbrev pub word : ℕ → (ℕ → Bool) → ℕ
word zero g = 0
word (suc n) g = word n (λ i. g (suc i)) * 2 + bit (g 0)

pub word_low : (n : ℕ) (g : ℕ → Bool) → word n g < 2 ^ n
word_low zero g = omega arith
word_low (suc n) g =
    let h = word_low n (λ i. g (suc i)) in
    let l = bit_low (g 0) in
    let e = pow-add 2 1 n in
    let q : 1 + n ≡ suc n = omega arith in
    subst (λ k. word (suc n) g < 2 ^ k) q (omega arith)

pub word_bit : (n p : ℕ) (g : ℕ → Bool) → p < n → (word n g / 2 ^ p) % 2 ≡ bit (g p)
word_bit zero p g h = absurd (omega arith)
word_bit (suc n) zero g h = let l = bit_low (g 0) in omega arith
word_bit (suc n) (suc p) g h =
    let l = bit_low (g 0) in
    let q : 1 + p ≡ suc p = omega arith in
    let half : word (suc n) g / 2 ≡ word n (λ i. g (suc i)) = omega arith in
    ap (λ k. (word (suc n) g / 2 ^ k) % 2) (sym q)
    ∙ (ap (λ k. k % 2) (sym (shr-shr (word (suc n) g) 1 p))
    ∙ (ap (λ k. (k / 2 ^ p) % 2) half ∙ word_bit n p (λ i. g (suc i)) (omega arith)))

pub no_bit : (w p : ℕ) → w < 2 ^ 32 → 32 ≤ p → bit_of w p ≡ false
no_bit w p small h =
    let l = pow_mono h in
    let z : w / 2 ^ p ≡ 0 = div-eq_of_lt (omega arith) in
    ap (λ k. eqb (k % 2) 1) z
