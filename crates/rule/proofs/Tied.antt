-- What is read of the words makes the model that they mean. Relies on guarded's lemmas and Spots.
use Rattle.std.proofs.Common.{◌≡◌, ℕ, zero, suc, ◌+◌, ◌*◌, ◌<◌, Bool, true, false, cond, ◌&&◌, ◌||◌, eqb, List, [], ◌∷◌, ◌++◌, map, Some, None, fold, unwrap_or, refl, ◌∙◌, mul_assoc, mul-add, arith}
use Rattle.std.specs.List.{range_with_len, flat_map}
use Rattle.guarded.specs.Values.{extent_of, number_of, admits, meets, after}
use Rattle.rule.specs.Meaning.{product, weighed, number, met, changed}
use Rattle.rule.specs.Read.{value_in}

-- the product of the sizes, and the numbers of states
product_from : (a : ℕ) (ns : List ℕ) → fold ◌*◌ a ns ≡ a * extent_of ns
product_from a [] = omega arith
product_from a (n ∷ ns) = product_from (a * n) ns ∙ mul_assoc a n (extent_of ns)

pub product_is : (ns : List ℕ) → extent_of ns ≡ product ns
product_is ns = omega (arith, product_from 1 ns)

weighed_is : (w : ℕ) (ns vs : List ℕ) → weighed w ns vs ≡ w * number_of ns vs
weighed_is w [] vs = omega arith
weighed_is w (n ∷ ns) [] = omega arith
weighed_is w (n ∷ ns) (v ∷ vs) =
    let later : weighed (w * n) ns vs ≡ w * (n * number_of ns vs) = weighed_is (w * n) ns vs ∙ mul_assoc w n (number_of ns vs) in
    omega (arith, later, mul-add w v (n * number_of ns vs))

pub number_is : (ns vs : List ℕ) → number ns vs ≡ number_of ns vs
number_is ns vs = omega (arith, weighed_is 1 ns vs)

-- needs and sets, as words and as values
admits_is : (n v : ℕ) → admits (value_in n) v ≡ (eqb n 255 || eqb n v)
admits_is n v = at (eqb n 255)
  where
    at : (b : Bool) → admits (cond b None (Some n)) v ≡ (b || eqb n v)
    at true = refl
    at false = refl

pub meets_is : (ns vs : List ℕ) → meets (map value_in ns) vs ≡ met ns vs
meets_is [] vs = refl
meets_is (n ∷ ns) [] = refl
meets_is (n ∷ ns) (v ∷ vs) = λ i. admits_is n v i && meets_is ns vs i

set_is : (n v : ℕ) → unwrap_or (value_in n) v ≡ cond (eqb n 255) v n
set_is n v = at (eqb n 255)
  where
    at : (b : Bool) → unwrap_or (cond b None (Some n)) v ≡ cond b v n
    at true = refl
    at false = refl

pub after_is : (ns vs : List ℕ) → after (map value_in ns) vs ≡ changed ns vs
after_is [] vs = refl
after_is (n ∷ ns) [] = refl
after_is (n ∷ ns) (v ∷ vs) = λ i. set_is n v i ∷ after_is ns vs i

pub joined_same : {X : Type 0} (f g : ℕ → List X) (n a : ℕ) → ((r : ℕ) → r < a + n → f r ≡ g r) → flat_map f (range_with_len a n) ≡ flat_map g (range_with_len a n)
joined_same f g zero a h = refl
joined_same f g (suc n) a h = λ i. h a (omega arith) i ++ joined_same f g n (a + 1) (λ r l. h r (omega arith)) i
