-- One character more, and the parts that are read by one or two. Assumes nothing.
use Rattle.std.proofs.Common.{◌≡◌, ℕ, ◌+◌, ◌-◌, ◌*◌, ◌<◌, ◌≤◌, true, false, eqb, ltb, List, [], ◌∷◌, ◌++◌, length, None, sym, refl, ap, ◌∙◌, subst, arith}
use Rattle.std.proofs.lemmas.Bool.{cond-true, cond-false, ne_eqb, eq-eqb, lt-ltb}
use Rattle.std.proofs.lemmas.Bool.Decides.{nat_tests}
use Rattle.std.proofs.lemmas.Str.{digit_value_digit}
use Rattle.std.proofs.lemmas.Str.Parse.{digit_from_value}
use Rattle.std.specs.Char.{digit_value}
use Rattle.grammar.specs.Machine.{Part, op, num, more, lit, stop, to, joint_of, across, digit, move, final, not, fault, on, outcome}
use Rattle.grammar.specs.Phrases.{digits, loose, strict, sign}
use Rattle.grammar.specs.declared.Name.{Name}
use Rattle.grammar.specs.declared.Joint.{Joint}
use Rattle.grammar.specs.declared.Fault.{Fault}
use Rattle.grammar.specs.declared.Fault.TheVariants.{Byte}
use Rattle.grammar.proofs.Digits.{two_digits}
use Rattle.grammar.proofs.Marks.{joint_sign}
use Rattle.text.specs.Spelled.{left, Char, Ended, Took, Failed, Digit}
use Rattle.text.specs.declared.reader.Reader.{Reader}

-- the character that was read is c
pub letter_is : {r r' : Reader} {a c : ℕ} → a ≡ c → Char r r' a → Char r r' c
letter_is {r} {r'} eq h = subst (Char r r') eq h

module _ {r r' : Reader} {c : ℕ} (h : Char r r' c) where
  pub longer : length (left r) ≡ length (left r') + 1
  longer = ap length h.text ∙ (omega arith)

  -- a character with a move
  pub step : (k k' : List Part) → move strict k c ≡ to k' → outcome k r.at (left r) ≡ outcome k' r'.at (left r')
  step k k' eq =
      ap (outcome k r.at) h.text
      ∙ ap (λ m. on m (fault (move loose k c) r.at) (λ k'. outcome k' (r.at + 1) (left r'))) eq
      ∙ ap (λ i. outcome k' i (left r')) (sym h.next)

  -- a character with none
  pub halt : (k : List Part) → move strict k c ≡ stop → move loose k c ≡ stop → outcome k r.at (left r) ≡ not (Byte r.at)
  halt k eq eq' =
      ap (outcome k r.at) h.text
      ∙ ap (λ m. on m (fault (move loose k c) r.at) (λ k'. outcome k' (r.at + 1) (left r'))) eq
      ∙ ap (λ m. fault m r.at) eq'

-- no character where one has to come
pub ended : {r : Reader} {d : Fault} → Ended r d → (k : List Part) → final k ≡ false → outcome k r.at (left r) ≡ not d
ended {r} {d} h k eq = ap (outcome k r.at) h.none ∙ cond-false (final k) _ _ eq ∙ ap not (sym h.short)

is_digit : (a : ℕ) → 48 ≤ a → a ≤ 57 → digit a ≡ true
is_digit a lo hi = grind (arith, nat_tests)

-- a code by its value as a digit
pub digit_low : (c : ℕ) → digit_value c < 10 → 48 ≤ c
digit_low c lt = (digit_from_value c lt).0

pub digit_high : (c : ℕ) → digit_value c < 10 → c ≤ 57
digit_high c lt = (digit_from_value c lt).1

pub digit_is : (c : ℕ) → digit_value c < 10 → digit_value c ≡ c - 48
digit_is c lt = omega (arith, digit_value_digit c (digit_from_value c lt))

module _ {r r' : Reader} {a : ℕ} (n : Name) (h : Char r r' a) where
  module _ (lo : 48 ≤ a) (hi : a ≤ 57) where
    nonzero : (k : List Part) → (a ≡ 48 → ⊥) → outcome (num n ∷ k) r.at (left r) ≡ outcome (more n (a - 48) ∷ k) r'.at (left r')
    nonzero k ne = step h (num n ∷ k) (more n (a - 48) ∷ k) (cond-false (eqb a 48) _ _ (ne_eqb a 48 ne) ∙ cond-true (digit a) _ _ (is_digit a lo hi))

    module _ (ne : a ≡ 48 → ⊥) {c : ℕ} (lo' : 48 ≤ c) (hi' : c ≤ 57) where
      moves : (k : List Part) → (a - 48) * 10 + (c - 48) < strict n → move strict (more n (a - 48) ∷ k) c ≡ to k
      moves k lt = cond-true (digit c) _ _ (is_digit c lo' hi') ∙ cond-true (ltb ((a - 48) * 10 + (c - 48)) (strict n)) _ _ (lt-ltb _ _ lt)

      pub num_two : {r'' : Reader} → Char r' r'' c → (a - 48) * 10 + (c - 48) < strict n → ((a - 48) * 10 + (c - 48) < strict n) × Took (num n ∷ []) r r'' (digits ((a - 48) * 10 + (c - 48)))
      num_two {r''} j lt = (
        lt,
        record {
          text = h.text ∙ ap (λ s. a ∷ s) j.text ∙ ap (λ d. d ++ left r'') (sym (two_digits a c (let ne' : a ≡ 48 → ⊥ = ne in omega arith) hi lo' hi'));
          less = omega (arith, longer h, longer j);
          goes = λ k. nonzero k ne ∙ step j (more n (a - 48) ∷ k) k (moves k lt);
        },
      )

module _ {r r' : Reader} where
  pub is_sign : (j : Joint) → Char r r' (sign j) → Took (op ∷ []) r r' (sign j ∷ [])
  is_sign j h = record { text = h.text; less = omega (arith, longer h); goes = λ k. step h (op ∷ k) k (ap (λ o. across o k) (joint_sign j)) }

  pub no_sign : {c : ℕ} → Char r r' c → (c ≡ 124 → ⊥) → (c ≡ 38 → ⊥) → (c ≡ 62 → ⊥) → (c ≡ 85 → ⊥) → Failed (op ∷ []) r (Byte r.at)
  unfolding joint_of
  no_sign {c} h a1 a2 a3 a4 k = halt h (op ∷ k) (ap (λ o. across o k) none) (ap (λ o. across o k) none)
    where
      none : joint_of c ≡ None
      none = cond-false (eqb c 124) _ _ (ne_eqb c 124 a1) ∙ cond-false (eqb c 38) _ _ (ne_eqb c 38 a2) ∙ cond-false (eqb c 62) _ _ (ne_eqb c 62 a3) ∙ cond-false (eqb c 85) _ _ (ne_eqb c 85 a4)

  pub is_lit : {c : ℕ} → Char r r' c → Took (lit c ∷ []) r r' (c ∷ [])
  is_lit {c} h = record { text = h.text; less = omega (arith, longer h); goes = λ k. step h (lit c ∷ k) k (cond-true (eqb c c) _ _ (eq-eqb c c refl)) }

  pub not_lit : {c : ℕ} (q : ℕ) → Char r r' c → (c ≡ q → ⊥) → Failed (lit q ∷ []) r (Byte r.at)
  not_lit {c} q h ne k = halt h (lit q ∷ k) (cond-false (eqb c q) _ _ (ne_eqb c q ne)) (cond-false (eqb c q) _ _ (ne_eqb c q ne))

-- the same by the values of the two digits
pub two_read : {r r' r'' : Reader} {a tens ones : ℕ} (n : Name) → Char r r' a → digit_value a < 10 → (a ≡ 48 → ⊥) → tens ≡ a - 48 → (d : Digit (left r') ones) → left r' ≡ d.code ∷ left r'' → r''.at ≡ r'.at + 1 → tens * 10 + ones < strict n → (tens * 10 + ones < strict n) × Took (num n ∷ []) r r'' (digits (tens * 10 + ones))
two_read {r} {r'} {r''} {a} {tens} {ones} n h value ne is d text next lt =
    let fits : (a - 48) * 10 + (d.code - 48) < strict n = omega (arith, is, d.is) in
    let number : (a - 48) * 10 + (d.code - 48) ≡ tens * 10 + ones = omega (arith, is, d.is) in
    let two = num_two n h (digit_low a value) (digit_high a value) ne d.low d.high {r'' = r''} (record { text = text; next = next }) fits in
    subst (λ k. (k < strict n) × Took (num n ∷ []) r r'' (digits k)) number two
