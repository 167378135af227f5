-- States' numbers and values are inverse to each other, and within their bounds. Assumes nothing.
use Rattle.std.proofs.Common.{◌≡◌, ℕ, zero, suc, ◌+◌, ◌*◌, ◌/◌, ◌%◌, ◌^◌, ◌<◌, ◌≤◌, Bool, true, false, cond, not, eqb, List, [], ◌∷◌, length, get_or, Some, None, Decides, Option, unwrap_or, sym, refl, ap, ◌∙◌, div-one, arith}
use native.Mathlib.Nat.{pow-succ', one-le-pow, zero-div}
use Rattle.std.specs.List.{AllZip}
use Rattle.std.proofs.lemmas.Nat.{mul-add-lt, div_below, div-add-mod', mod_below, div-mul-add, mod-mul-add, mul-le, shr-shr}
use Rattle.std.proofs.lemmas.Bool.{false≢true}
use Rattle.std.proofs.lemmas.Bool.Decides.{nat_tests}
use Rattle.guarded.specs.Values.{extent_of, values_of, number_of, facts_of, after, Sized, Ranged}

abbrev pub Below : List ℕ → List ℕ → Type 0
Below ns vs = AllZip (λ n v. v < n) ns vs

pub sized_tail : (n : ℕ) (ns : List ℕ) → Sized (n ∷ ns) → Sized ns
sized_tail n ns h j l = h (suc j) (omega arith)

pub sized_head : (n : ℕ) (ns : List ℕ) → Sized (n ∷ ns) → (1 ≤ n) × (n ≤ 16)
sized_head n ns h = h 0 (omega arith)

pub ranged_tail : (n : ℕ) (ns : List ℕ) (o : Option ℕ) (os : List (Option ℕ)) → Ranged (n ∷ ns) (o ∷ os) → Ranged ns os
ranged_tail n ns o os h j v l = h (suc j) v (omega (arith, l.0), l.1)

pub length_values : (ns : List ℕ) (s : ℕ) → length (values_of ns s) ≡ length ns
length_values [] s = refl
length_values (n ∷ ns) s = ap suc (length_values ns (s / n))

pub values_below : (ns : List ℕ) (s : ℕ) → Sized ns → Below ns (values_of ns s)
values_below [] s h = tt
values_below (n ∷ ns) s h = (mod_below s n (sized_head n ns h).0, values_below ns (s / n) (sized_tail n ns h))

pub number_below : (ns vs : List ℕ) → Below ns vs → number_of ns vs < extent_of ns
number_below [] [] h = omega arith
number_below [] (v ∷ vs) h = absurd h
number_below (n ∷ ns) [] h = absurd h
number_below (n ∷ ns) (v ∷ vs) h =
    omega (arith, mul-add-lt (number_of ns vs) n v (extent_of ns) (number_below ns vs h.1) h.0)

pub number_values : (ns : List ℕ) (s : ℕ) → Sized ns → s < extent_of ns → number_of ns (values_of ns s) ≡ s
number_values [] s h l = omega arith
number_values (n ∷ ns) s h l =
    let some : 0 < n = (sized_head n ns h).0 in
    let rest : s / n < extent_of ns = div_below s n (extent_of ns) some (omega arith) in
    let back : number_of ns (values_of ns (s / n)) ≡ s / n = number_values ns (s / n) (sized_tail n ns h) rest in
    ap (λ k. s % n + n * k) back ∙ omega (arith, div-add-mod' s n)

pub values_number : (ns vs : List ℕ) → Below ns vs → values_of ns (number_of ns vs) ≡ vs
values_number [] [] h = refl
values_number [] (v ∷ vs) h = absurd h
values_number (n ∷ ns) [] h = absurd h
values_number (n ∷ ns) (v ∷ vs) h =
    let turned : v + n * number_of ns vs ≡ number_of ns vs * n + v = omega arith in
    let low : (v + n * number_of ns vs) % n ≡ v = ap (λ k. k % n) turned ∙ mod-mul-add (number_of ns vs) n v h.0 in
    let high : (v + n * number_of ns vs) / n ≡ number_of ns vs = ap (λ k. k / n) turned ∙ div-mul-add (number_of ns vs) n v h.0 in
    λ i. low i ∷ (ap (values_of ns) high ∙ values_number ns vs h.1) i

value_below : (o : Option ℕ) (n v : ℕ) → v < n → ((u : ℕ) → o ≡ Some u → u < n) → unwrap_or o v < n
value_below None n v l h = l
value_below (Some u) n v l h = h u refl

pub after_below : (ns vs : List ℕ) (os : List (Option ℕ)) → Below ns vs → Ranged ns os → Below ns (after os vs)
after_below ns vs [] b h = b
after_below [] [] (o ∷ os) b h = tt
after_below [] (v ∷ vs) (o ∷ os) b h = absurd b
after_below (n ∷ ns) [] (o ∷ os) b h = absurd b
after_below (n ∷ ns) (v ∷ vs) (o ∷ os) b h =
    (value_below o n v b.0 (λ u e. h 0 u (omega arith, e)), after_below ns vs os b.1 (ranged_tail n ns o os h))

pub extent_some : (ns : List ℕ) → Sized ns → 1 ≤ extent_of ns
extent_some [] h = omega arith
extent_some (n ∷ ns) h = omega (arith, mul-le 1 1 n (extent_of ns) (sized_head n ns h).0 (extent_some ns (sized_tail n ns h)))

pub extent_few : (ns : List ℕ) (k : ℕ) → Sized ns → length ns ≤ k → extent_of ns ≤ 16 ^ k
extent_few [] k h l = one-le-pow k 16 (omega arith)
extent_few (n ∷ ns) zero h l = absurd (omega arith)
extent_few (n ∷ ns) (suc k) h l =
    omega (arith, pow-succ' 16 k, mul-le n (extent_of ns) 16 (16 ^ k) (sized_head n ns h).1 (extent_few ns k (sized_tail n ns h) (omega arith)))

bit_below : (b : Bool) → cond b 0 1 < 2
bit_below true = omega arith
bit_below false = omega arith

pub facts_few : (vs : List ℕ) → facts_of vs < 2 ^ length vs
facts_few [] = omega arith
facts_few (v ∷ vs) = omega (arith, pow-succ' 2 (length vs), facts_few vs, bit_below (eqb v 0))

bit_decides : (v k : ℕ) → Decides (not (eqb v 0)) ((cond (eqb v 0) 0 1 + 2 * k) % 2 ≡ 1)
bit_decides v k = grind (arith, nat_tests)

pub facts_decide : (vs : List ℕ) (j : ℕ) → Decides (not (eqb (get_or vs j 0) 0)) ((facts_of vs / 2 ^ j) % 2 ≡ 1)
facts_decide [] j =
    let none : 0 / 2 ^ j ≡ 0 = zero-div (2 ^ j) in
    rw none ((λ e. absurd (false≢true e)), (λ e. absurd (omega arith)))
facts_decide (v ∷ vs) zero = rw div-one (bit_decides v (facts_of vs))
facts_decide (v ∷ vs) (suc j) =
    let low : cond (eqb v 0) 0 1 < 2 = bit_below (eqb v 0) in
    let half : (cond (eqb v 0) 0 1 + 2 * facts_of vs) / 2 ≡ facts_of vs = omega arith in
    let same : (cond (eqb v 0) 0 1 + 2 * facts_of vs) / 2 ^ suc j ≡ facts_of vs / 2 ^ j =
    ap (λ k. (cond (eqb v 0) 0 1 + 2 * facts_of vs) / 2 ^ k) (omega arith) ∙ sym (shr-shr (cond (eqb v 0) 0 1 + 2 * facts_of vs) 1 j) ∙ ap (λ k. k / 2 ^ j) half in
    rw same (facts_decide vs j)
