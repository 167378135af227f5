-- Every atom has a number. Assumes nothing.
use Rattle.std.proofs.Common.{◌≡◌, ℕ, zero, suc, ◌+◌, ◌-◌, ◌/◌, ◌%◌, ◌^◌, ◌<◌, ◌≤◌, Bool, false, cond, eqb, ltb, sym, refl, ap, ◌∙◌, subst, ⊎_elim, arith, pow-add}
use Rattle.std.proofs.lemmas.Nat.{shr-shr}
use Rattle.std.proofs.lemmas.Bool.{cases_eq, cases_lt, cond-false, cond-true, eq-eqb, eqb-true, le-ltb, lt-ltb}
use Rattle.formula.specs.Atoms.{Atom, width, bit_of, atom}
use Rattle.formula.specs.Ltl.{Ltl, top, fact, enabled, taken, neg, or, next, until}
use Rattle.tableau.specs.Claims.{Coded, OneCode}
use Rattle.tableau.proofs.Bits.{bit_is, word, word_low, word_bit}

-- the bits of g from place k on, and before it those of h
abbrev glue : ℕ → (ℕ → Bool) → (ℕ → Bool) → ℕ → Bool
glue k h g i = cond (ltb i k) (h i) (g (i - k))

glue_low : (k : ℕ) (h g : ℕ → Bool) (i : ℕ) → i < k → glue k h g i ≡ h i
glue_low k h g i l = cond-true (ltb i k) (h i) (g (i - k)) (lt-ltb i k l)

glue_high : (k : ℕ) (h g : ℕ → Bool) (i j : ℕ) → k + i ≡ j → glue k h g j ≡ g i
glue_high k h g i j e = cond-false (ltb j k) (h j) (g (j - k)) (le-ltb j k (omega arith)) ∙ ap g (omega arith)

abbrev bits : (f : Ltl) → Atom f → ℕ → Bool
bits top a i = false
bits (fact p) a i = a
bits (enabled t) a i = a
bits (taken t) a i = a
bits (neg f) a i = bits f a i
bits (or f g) a i = glue (width f) (bits f a.0) (bits g a.1) i
bits (next f) a i = glue (width f) (bits f a.1) (λ _. a.0) i
bits (until f g) a i = glue (width f) (bits f a.1) (glue (width g) (bits g a.2) (λ _. a.0)) i

module _ (n : ℕ) where
  abbrev Agree : ℕ → ℕ → (ℕ → Bool) → Type 0
  Agree o k g = (i : ℕ) → i < k → bit_of n (o + i) ≡ g i

  left : (o k l : ℕ) (h g : ℕ → Bool) → Agree o (k + l) (glue k h g) → Agree o k h
  left o k l h g all i low = all i (omega arith) ∙ glue_low k h g i low

  right : (o k l : ℕ) (h g : ℕ → Bool) → Agree o (k + l) (glue k h g) → Agree (o + k) l g
  right o k l h g all i low =
      let e : (o + k) + i ≡ o + (k + i) = omega arith in
      ap (bit_of n) e ∙ (all (k + i) (omega arith) ∙ glue_high k h g i (k + i) refl)

  one : (o : ℕ) (x : Bool) → Agree o 1 (λ _. x) → bit_of n o ≡ x
  one o x all = let e : o ≡ o + 0 = omega arith in ap (bit_of n) e ∙ all 0 (omega arith)

  reads : (f : Ltl) (o : ℕ) (a : Atom f) → Agree o (width f) (bits f a) → atom f o n ≡ a
  reads top o a all = refl
  reads (fact p) o a all = one o a all
  reads (enabled t) o a all = one o a all
  reads (taken t) o a all = one o a all
  reads (neg f) o a all = reads f o a all
  reads (or f g) o a all =
      let p = reads f o a.0 (left o (width f) (width g) (bits f a.0) (bits g a.1) all) in
      let q = reads g (o + width f) a.1 (right o (width f) (width g) (bits f a.0) (bits g a.1) all) in
      ap (λ (x : Atom f). let y : Atom (or f g) = (x, atom g (o + width f) n) in y) p ∙ ap (λ (x : Atom g). let y : Atom (or f g) = (a.0, x) in y) q
  reads (next f) o a all =
      let p = reads f o a.1 (left o (width f) 1 (bits f a.1) (λ _. a.0) all) in
      let q = one (o + width f) a.0 (right o (width f) 1 (bits f a.1) (λ _. a.0) all) in
      ap (λ (x : Bool). let y : Atom (next f) = (x, atom f o n) in y) q ∙ ap (λ (x : Atom f). let y : Atom (next f) = (a.0, x) in y) p
  reads (until f g) o a all =
      let h = glue (width g) (bits g a.2) (λ _. a.0) in
      let all' : Agree o (width f + (width g + 1)) (glue (width f) (bits f a.1) h) = λ i low. all i (omega arith) in
      let p = reads f o a.1 (left o (width f) (width g + 1) (bits f a.1) h all') in
      let rest = right o (width f) (width g + 1) (bits f a.1) h all' in
      let q = reads g (o + width f) a.2 (left (o + width f) (width g) 1 (bits g a.2) (λ _. a.0) rest) in
      let r = one (o + width f + width g) a.0 (right (o + width f) (width g) 1 (bits g a.2) (λ _. a.0) rest) in
      ap (λ (x : Bool). let y : Atom (until f g) = (x, atom f o n, atom g (o + width f) n) in y) r
      ∙ (ap (λ (x : Atom f). let y : Atom (until f g) = (a.0, x, atom g (o + width f) n) in y) p
      ∙ ap (λ (x : Atom g). let y : Atom (until f g) = (a.0, a.1, x) in y) q)

pub coded : Coded
coded f a = (
  word (width f) (bits f a),
  word_low (width f) (bits f a),
  reads (word (width f) (bits f a)) f 0 a (λ i low.
      let e : 0 + i ≡ i = omega arith in
      ap (bit_of (word (width f) (bits f a))) e ∙ (ap (λ k. eqb k 1) (word_bit (width f) i (bits f a) low) ∙ bit_is (bits f a i))),
)

-- numbers with the same bits
same_bits : (k m n : ℕ) → m < 2 ^ k → n < 2 ^ k → ((i : ℕ) → i < k → bit_of m i ≡ bit_of n i) → m ≡ n
same_bits zero m n hm hn all = omega arith
same_bits (suc k) m n hm hn all =
    let e = pow-add 2 1 k in
    let q : suc k ≡ 1 + k = omega arith in
    let hm' : m < 2 ^ (1 + k) = subst (λ j. m < 2 ^ j) q hm in
    let hn' : n < 2 ^ (1 + k) = subst (λ j. n < 2 ^ j) q hn in
    let halves = same_bits k (m / 2) (n / 2) (omega arith) (omega arith) (λ i low.
    half_bit m i ∙ (all (suc i) (omega arith) ∙ sym (half_bit n i))) in
    let low = odd (m % 2) (n % 2) (omega arith) (omega arith) (first_bit m ∙ (all 0 (omega arith) ∙ sym (first_bit n))) in
    omega arith
  where
    half_bit : (n i : ℕ) → bit_of (n / 2) i ≡ bit_of n (suc i)
    half_bit n i = let q : 1 + i ≡ suc i = omega arith in ap (λ x. eqb (x % 2) 1) (shr-shr n 1 i) ∙ ap (bit_of n) q

    first_bit : (n : ℕ) → eqb (n % 2) 1 ≡ bit_of n 0
    first_bit n = let q : n % 2 ≡ (n / 2 ^ 0) % 2 = omega arith in ap (λ x. eqb x 1) q

    odd : (x y : ℕ) → x < 2 → y < 2 → eqb x 1 ≡ eqb y 1 → x ≡ y
    odd x y hx hy e =
        ⊎_elim
        (λ p. let z = eqb-true y 1 (sym e ∙ eq-eqb x 1 p) in omega arith)
        (λ p.
        ⊎_elim (λ z. absurd (p (eqb-true x 1 (e ∙ eq-eqb y 1 z)))) (λ z. omega (arith, p, z)) (cases_eq y 1))
        (cases_eq x 1)

module _ (m n : ℕ) where
  abbrev Alike : ℕ → ℕ → Type 0
  Alike o k = (i : ℕ) → o ≤ i → i < o + k → bit_of m i ≡ bit_of n i

  single : (o : ℕ) → bit_of m o ≡ bit_of n o → Alike o 1
  single o e i lo hi = let q : o ≡ i = omega arith in subst (λ k. bit_of m k ≡ bit_of n k) q e

  both : (o k l : ℕ) → Alike o k → Alike (o + k) l → Alike o (k + l)
  both o k l p q i lo hi = ⊎_elim (λ h. p i lo h) (λ h. q i h (omega arith)) (cases_lt i (o + k))

  alike : (f : Ltl) (o : ℕ) → atom f o m ≡ atom f o n → Alike o (width f)
  alike top o e = λ i lo hi. absurd (omega arith)
  alike (fact p) o e = single o e
  alike (enabled t) o e = single o e
  alike (taken t) o e = single o e
  alike (neg f) o e = alike f o e
  alike (or f g) o e = both o (width f) (width g) (alike f o (ap (λ (x : Atom (or f g)). x.0) e)) (alike g (o + width f) (ap (λ (x : Atom (or f g)). x.1) e))
  alike (next f) o e = both o (width f) 1 (alike f o (ap (λ (x : Atom (next f)). x.1) e)) (single (o + width f) (ap (λ (x : Atom (next f)). x.0) e))
  alike (until f g) o e =
      let p = both o (width f) (width g + 1) (alike f o (ap (λ (x : Atom (until f g)). x.1) e))
      (both (o + width f) (width g) 1 (alike g (o + width f) (ap (λ (x : Atom (until f g)). x.2) e)) (single (o + width f + width g) (ap (λ (x : Atom (until f g)). x.0) e))) in
      λ i lo hi. p i lo (omega arith)

pub one_code : OneCode
one_code f m n hm hn e = same_bits (width f) m n hm hn (λ i low. alike m n f 0 e i (omega arith) (omega arith))
