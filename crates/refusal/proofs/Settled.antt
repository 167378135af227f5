-- A table of refusals gives one refusal at most, and none where no row applies. Relies on Same.
use Rattle.std.proofs.Common.{◌≡◌, ℕ, zero, suc, ◌<◌, List, [], ◌∷◌, subst, inl, inr, ⊎_elim, arith}
use Rattle.std.proofs.lemmas.Bool.{cases_lt}
use Rattle.refusal.specs.declared.Refusal.{Refusal}
use Rattle.refusal.specs.Causes.{Gives}
use Rattle.refusal.specs.Rows.{Row, Clear, First, Lowest, Fails}
use Rattle.refusal.proofs.Same.{same}

-- a row applies at one place at most
abbrev pub Steady : Row → Type 0
Steady row = (i j : ℕ) → row.applies i → row.applies j → i ≡ j

abbrev pub AllSteady : List Row → Type 0
AllSteady [] = Unit {0}
AllSteady (row ∷ rows) = Steady row × AllSteady rows

pub one_lowest : {P : ℕ → Type 0} (i j : ℕ) → Lowest P i → Lowest P j → i ≡ j
one_lowest i j a b =
    ⊎_elim
    (λ lt. absurd (b.none_below i lt a.here))
    (λ ge. ⊎_elim (λ gt. absurd (a.none_below j gt b.here)) (λ le. omega arith) (cases_lt j i))
    (cases_lt i j)

pub one_fails : {P : Type 0} (i j : ℕ) → Fails P i → Fails P j → i ≡ j
one_fails i j a b = omega (arith, a.1, b.1)

pub one_refusal : (rows : List Row) → AllSteady rows → (r s : Refusal) → First rows r → First rows s → r ≡ s
one_refusal [] steady r s a b = absurd a
one_refusal (row ∷ rows) steady r s a b =
    ⊎_elim
    (λ p. ⊎_elim
    (λ q. same (subst (λ i. Gives r row.number row.layer i) (steady.0 p.0 q.0 p.1 q.1) p.2) q.2)
    (λ q. absurd (q.0 p.0 p.1))
    b)
    (λ p. ⊎_elim
    (λ q. absurd (p.0 q.0 q.1))
    (λ q. one_refusal rows steady.1 r s p.1 q.1)
    b)
    a

pub not_both : (rows : List Row) → (r : Refusal) → Clear rows → First rows r → ⊥
not_both [] r clear a = a
not_both (row ∷ rows) r clear a =
    ⊎_elim (λ p. clear.0 p.0 p.1) (λ p. not_both rows r clear.1 p.1) a

-- two rows that apply at the same places
pub record Alike (x y : Row) : Type 0 where
  pub number : x.number ≡ y.number
  pub layer : x.layer ≡ y.layer
  pub on : (i : ℕ) → x.applies i → y.applies i
  pub back : (i : ℕ) → y.applies i → x.applies i

abbrev pub AllAlike : List Row → List Row → Type 0
AllAlike [] [] = Unit {0}
AllAlike [] (y ∷ ys) = ⊥
AllAlike (x ∷ xs) [] = ⊥
AllAlike (x ∷ xs) (y ∷ ys) = Alike x y × AllAlike xs ys

pub first_alike : (xs ys : List Row) (r : Refusal) → AllAlike xs ys → First xs r → First ys r
first_alike [] ys r alike first = absurd first
first_alike (x ∷ xs) [] r alike first = absurd alike
first_alike (x ∷ xs) (y ∷ ys) r alike first =
    let a = alike.0 in
    ⊎_elim
    (λ p. inl (p.0, a.on p.0 p.1, subst (λ l. Gives r y.number l p.0) a.layer (subst (λ n. Gives r n x.layer p.0) a.number p.2)))
    (λ p. inr (λ i applies. p.0 i (a.back i applies), first_alike xs ys r alike.1 p.1))
    first

pub clear_alike : (xs ys : List Row) → AllAlike xs ys → Clear xs → Clear ys
clear_alike [] [] alike clear = tt
clear_alike [] (y ∷ ys) alike clear = absurd alike
clear_alike (x ∷ xs) [] alike clear = absurd alike
clear_alike (x ∷ xs) (y ∷ ys) alike clear = (λ i applies. clear.0 i (alike.0.back i applies), clear_alike xs ys alike.1 clear.1)

-- the lowest place of what holds at the same places
pub lowest_alike : {P Q : ℕ → Type 0} → ((i : ℕ) → P i → Q i) → ((i : ℕ) → Q i → P i) → (i : ℕ) → Lowest P i → Lowest Q i
lowest_alike on back i low = record { here = on i low.here; none_below = λ j lt q. low.none_below j lt (back j q) }

-- where no place is the lowest of which P holds, P holds of none
none_under : (P : ℕ → Type 0) → ((i : ℕ) → Lowest P i → ⊥) → (n i : ℕ) → i < n → P i → ⊥
none_under P none zero i lt p = omega arith
none_under P none (suc n) i lt p =
    none i (record { here = p; none_below = λ j less q. none_under P none n j (omega arith) q })

pub no_lowest : (P : ℕ → Type 0) → ((i : ℕ) → Lowest P i → ⊥) → (i : ℕ) → P i → ⊥
no_lowest P none i p = none_under P none (suc i) i (omega arith) p
