-- What is told of each element of a list, one more element at a time. Assumes nothing.
use Rattle.std.proofs.Common.{◌≡◌, ℕ, zero, suc, ◌<◌, List, [], ◌∷◌, ◌++◌, Some, length, slice_get, sym, refl, ap, ◌∙◌, ⊎_elim, arith}
use Rattle.std.specs.Option.{option_map_or}
use Rattle.std.proofs.lemmas.List.{length-append}
use Rattle.std.proofs.lemmas.Bool.{cases_lt}

-- an element pushed, and those before it
push_before : {X : Type 0} (xs : List X) (x : X) (i : ℕ) → i < length xs → slice_get (xs ++ x ∷ []) i ≡ slice_get xs i
push_before [] x i lt = absurd (omega arith)
push_before (y ∷ xs) x zero lt = refl
push_before (y ∷ xs) x (suc i) lt = push_before xs x i (omega arith)

push_last : {X : Type 0} (xs : List X) (x : X) (i : ℕ) → i ≡ length xs → slice_get (xs ++ x ∷ []) i ≡ Some x
push_last [] x i is = ap (slice_get (x ∷ [])) is
push_last (y ∷ xs) x zero is = absurd (omega arith)
push_last (y ∷ xs) x (suc i) is = push_last xs x i (omega arith)

-- what is told of each element and holds of the one pushed too, holds of all
pub one_more : {X A : Type 0} (f : X → A) (d : A) (g : ℕ → A) (xs : List X) (x : X) → ((s : ℕ) → s < length xs → option_map_or f (slice_get xs s) d ≡ g s) → f x ≡ g (length xs)
    → (s : ℕ) → s < length (xs ++ x ∷ []) → option_map_or f (slice_get (xs ++ x ∷ []) s) d ≡ g s
one_more f d g xs x before here s lt =
    ⊎_elim
    (λ low. ap (λ o. option_map_or f o d) (push_before xs x s low) ∙ before s low)
    (λ high.
    let is : s ≡ length xs = omega (arith, length-append xs (x ∷ [])) in
    ap (λ o. option_map_or f o d) (push_last xs x s is) ∙ here ∙ ap g (sym is))
    (cases_lt s (length xs))
