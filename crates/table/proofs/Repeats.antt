-- What stands again in a list, and lists in which nothing does. Assumes nothing.
use Rattle.std.proofs.Common.{◌≡◌, ℕ, ◌<◌, Bool, true, false, Some, None, Option, List, length, get_or, MatchBool, MatchOption, subst, ◌∙◌, arith}
use Rattle.std.specs.List.{HoldsAt, AllWithin, range_with_len}
use Rattle.std.proofs.lemmas.List.FromFn.{length-range_with_len, get_or-range_with_len}
use Rattle.std.proofs.lemmas.List.{get_or_default}
use Rattle.refusal.specs.Rows.{Lowest}
use Rattle.plant.specs.Model.{Distinct}
use Rattle.table.specs.Measured.{Again, FirstSame, Searched}

-- a fact of the numbers below n, and of their list
none_below : (n : ℕ) (No : ℕ → Type 0) → AllWithin No (range_with_len 0 n) 0 (length (range_with_len 0 n)) → (j : ℕ) → j < n → No j
none_below n No all j lt =
    subst No (omega (arith, get_or-range_with_len 0 n j 0 lt)) (all j 0 (omega arith) (omega (arith, length-range_with_len 0 n)))

some_below : (n : ℕ) (Yes : ℕ → Type 0) → (k : ℕ) × (k < length (range_with_len 0 n)) × HoldsAt Yes (range_with_len 0 n) k → (j : ℕ) × (j < n) × Yes j
some_below n Yes (k, lt, holds) =
    let inside : k < n = omega (arith, length-range_with_len 0 n) in
    (k, inside, subst Yes (omega (arith, get_or-range_with_len 0 n k 0 inside)) (holds 0))

-- what `any` answers over the numbers below n
pub any_below : (n : ℕ) (r : Bool) (Yes No : ℕ → Type 0) → MatchBool r ((k : ℕ) × (k < length (range_with_len 0 n)) × HoldsAt Yes (range_with_len 0 n) k) (AllWithin No (range_with_len 0 n) 0 (length (range_with_len 0 n))) → MatchBool r ((j : ℕ) × (j < n) × Yes j) ((j : ℕ) → j < n → No j)
any_below n true Yes No h = some_below n Yes h
any_below n false Yes No h = none_below n No h

-- what `find` answers over them, where each is asked whether it is the same as one before it
pub first_below : (says : ℕ → ℕ → Bool → Type 0) (n : ℕ) (r : Option ℕ)
    → MatchOption r (AllWithin (λ k. (j : ℕ) → j < k → says j k false) (range_with_len 0 n) 0 (length (range_with_len 0 n)))
    (λ x. ((j : ℕ) × (j < x) × says j x true) × (i : ℕ) × (i < length (range_with_len 0 n)) × HoldsAt (λ y. y ≡ x) (range_with_len 0 n) i × AllWithin (λ k. (j : ℕ) → j < k → says j k false) (range_with_len 0 n) 0 i)
    → MatchOption r ((j k : ℕ) → j < k → k < n → says j k false) (FirstSame says n)
first_below says n None h = λ j k low lt. none_below n (λ k. (j : ℕ) → j < k → says j k false) h k lt j low
first_below says n (Some x) h =
    let i = h.1 in
    let inside : i < n = omega (arith, h.2, length-range_with_len 0 n) in
    let is : i ≡ x = omega (arith, get_or-range_with_len 0 n i 0 inside, h.3 0) in
    record {
      within = omega (arith, is, inside);
      earlier = h.0.0;
      before = h.0.1;
      same = h.0.2;
      none_below = λ j k low lt.
          let under : k < i = omega (arith, is, lt) in
          subst (λ m. (j : ℕ) → j < m → says j m false) (omega (arith, get_or-range_with_len 0 n k 0 (omega (arith, under, inside)))) (h.4 k 0 (omega arith) under) j low;
    }

-- what was found stands again in a list, if the answers tell which of its elements are the same
pub first_again : {X : Type 0} {says : ℕ → ℕ → Bool → Type 0} {n : ℕ} {r : Option ℕ} (xs : List X) (z : X) → n ≡ length xs
    → ((j k : ℕ) → j < k → k < n → says j k true → get_or xs j z ≡ get_or xs k z)
    → ((j k : ℕ) → j < k → k < n → says j k false → get_or xs j z ≡ get_or xs k z → ⊥)
    → Searched says n r → MatchOption r (Distinct xs) (λ k. Lowest (Again xs) k)
first_again {r = None} xs z long alike unlike s = λ i j same. unlike i j same.0 (omega (arith, same.1)) (s.answer i j same.0 (omega (arith, same.1))) (same.2 z)
first_again {r = Some k} xs z long alike unlike s =
    let f = s.answer in
    let e = alike f.earlier k f.before f.within f.same in
    record {
      here = record {
        within = omega (arith, f.within);
        earlier = f.earlier;
        before = f.before;
        same = λ d. get_or_default xs f.earlier d z (omega (arith, f.before, f.within)) ∙ e ∙ get_or_default xs k z d (omega (arith, f.within));
      };
      none_below = λ j lt again. unlike again.earlier j again.before (omega (arith, again.within)) (f.none_below again.earlier j again.before lt) (again.same z);
    }
