-- Lists without repeats that have the same members are as long as each other. Assumes nothing.
use Rattle.std.proofs.Common.{◌≡◌, ◌≢◌, ℕ, suc, ◌-◌, ◌<◌, ◌≤◌, List, [], ◌∷◌, length, get_or, remove, sym, ap, ◌∙◌, ⊎_elim, arith}
use Rattle.std.proofs.lemmas.Bool.{cases_lt, cases_eq}
use Rattle.std.proofs.lemmas.List.{get_or_default}
use Rattle.std.proofs.lemmas.List.Edits.{length-remove, get_or-remove_below, get_or-remove_above}
use Rattle.plant.specs.Model.{Distinct}
use Rattle.book.proofs.Opened.{In}
use Rattle.session.specs.History.{Turn, Lists}

-- what stands elsewhere than at k stays when k goes
in_remove : (ys : List ℕ) (k s i : ℕ) → k < length ys → i < length ys → get_or ys i 0 ≡ s → get_or ys k 0 ≢ s → In s (remove ys k)
in_remove ys k s i within lt e other =
    ⊎_elim
    (λ (below : i < k). (i, omega (arith, length-remove ys k within), get_or-remove_below ys k 0 i below within ∙ e))
    (λ (le : k ≤ i).
    ⊎_elim
    (λ (same : i ≡ k). absurd (other (ap (λ j. get_or ys j 0) (sym same) ∙ e)))
    (λ (past : i ≢ k).
    (i - 1, omega (arith, length-remove ys k within), get_or-remove_above ys k 0 (i - 1) (omega arith) within ∙ ap (λ j. get_or ys j 0) (omega arith) ∙ e))
    (cases_eq i k))
    (cases_lt i k)

tail_distinct : (x : ℕ) (xs : List ℕ) → Distinct (x ∷ xs) → Distinct xs
tail_distinct x xs d i j same = d (suc i) (suc j) (omega (arith, same.0), omega (arith, same.1), same.2)

-- the first is not among the rest
first_other : (x : ℕ) (xs : List ℕ) → Distinct (x ∷ xs) → (i : ℕ) → i < length xs → x ≢ get_or xs i 0
first_other x xs d i lt e = d 0 (suc i) (omega arith, omega arith, λ z. e ∙ get_or_default xs i 0 z lt)

at_most : (xs ys : List ℕ) → Distinct xs → ((i : ℕ) → i < length xs → In (get_or xs i 0) ys) → length xs ≤ length ys
at_most [] ys d sub = omega arith
at_most (x ∷ xs) ys d sub =
    let here = sub 0 (omega arith) in
    let k = here.0 in
    let rest = at_most xs (remove ys k) (tail_distinct x xs d)
    (λ i lt.
    let there = sub (suc i) (omega arith) in
    in_remove ys k (get_or xs i 0) there.0 here.1 there.1 there.2 (λ e. first_other x xs d i lt (sym here.2 ∙ e))) in
    omega (arith, rest, length-remove ys k here.1)

pub same_length : {h : List Turn} (xs ys : List ℕ) → Lists h xs → Lists h ys → length xs ≡ length ys
same_length xs ys a b =
    omega (arith, at_most xs ys a.apart (λ i lt. b.all (get_or xs i 0) (a.only i lt)), at_most ys xs b.apart (λ i lt. a.all (get_or ys i 0) (b.only i lt)))
