-- Lists of arcs that rules give one by one: their order, and what holds of each. Assumes nothing.
use Rattle.std.proofs.Common.{◌≡◌, ℕ, zero, suc, ◌+◌, ◌<◌, ◌≤◌, Bool, cond, List, [], ◌∷◌, ◌++◌, map, length, get_or, refl, ap, arith}
use Rattle.std.specs.List.{range_with_len, flat_map, filter, AllByRecursion}
use Rattle.std.proofs.lemmas.Bool.{cond_both}
use Rattle.meaning.specs.declared.Arc.{Arc}
use Rattle.meaning.specs.Systems.{no_arc}
use Rattle.plant.specs.Model.{Distinct}

-- the events rise, and are a or above
abbrev Rising : ℕ → List Arc → Type 0
Rising a [] = Unit {0}
Rising a (x ∷ xs) = (a ≤ x.event) × Rising (x.event + 1) xs

rising_at : (a : ℕ) (xs : List Arc) (i : ℕ) (d : Arc) → Rising a xs → i < length xs → a ≤ (get_or xs i d).event
rising_at a [] i d h l = absurd (omega arith)
rising_at a (x ∷ xs) zero d h l = h.0
rising_at a (x ∷ xs) (suc i) d h l = omega (arith, h.0, rising_at (x.event + 1) xs i d h.1 (omega arith))

rises : (a : ℕ) (xs : List Arc) (i j : ℕ) (d : Arc) → Rising a xs → i < j → j < length xs → (get_or xs i d).event < (get_or xs j d).event
rises a [] i j d h l m = absurd (omega arith)
rises a (x ∷ xs) i zero d h l m = absurd (omega arith)
rises a (x ∷ xs) zero (suc j) d h l m = omega (arith, rising_at (x.event + 1) xs j d h.1 (omega arith))
rises a (x ∷ xs) (suc i) (suc j) d h l m = rises (x.event + 1) xs i j d h.1 (omega arith) (omega arith)

distinct : (a : ℕ) (xs : List Arc) → Rising a xs → Distinct xs
distinct a xs h i j e =
    let same : (get_or xs i no_arc).event ≡ (get_or xs j no_arc).event = ap (λ (x : Arc). x.event) (e.2 no_arc) in
    omega (arith, rises a xs i j no_arc h e.0 e.1, same)

-- where each rule gives one element or none, those given are the elements of the rules that pass
pub joined_kept : {X : Type 0} (b : ℕ → Bool) (a : ℕ → X) (rs : List ℕ) → flat_map (λ r. cond (b r) (a r ∷ []) []) rs ≡ map a (filter b rs)
joined_kept b a [] = refl
joined_kept {X} b a (r ∷ rs) =
    cond_both (b r) (r ∷ filter b rs) (filter b rs) (λ ks. cond (b r) (a r ∷ []) [] ++ flat_map (λ r. cond (b r) (a r ∷ []) []) rs ≡ map a ks)
    (λ yes. rw yes (ap (λ xs. a r ∷ xs) (joined_kept b a rs)))
    (λ no. rw no (joined_kept b a rs))

module _ (b : ℕ → Bool) (t : ℕ → ℕ) where
  -- the arc of one rule, if it has one
  abbrev one : ℕ → List Arc
  one r = cond (b r) (record { event = r; target = t r } ∷ []) []

  rising : (n a c : ℕ) → c ≤ a → Rising c (flat_map one (range_with_len a n))
  rising zero a c l = tt
  rising (suc n) a c l =
      cond_both (b a) (record { event = a; target = t a } ∷ []) [] (λ xs. Rising c (xs ++ flat_map one (range_with_len (a + 1) n)))
      (λ _. (l, rising n (a + 1) (a + 1) (omega arith)))
      (λ _. rising n (a + 1) c (omega arith))

  pub arcs_distinct : (n : ℕ) → Distinct (flat_map one (range_with_len 0 n))
  arcs_distinct n = distinct 0 (flat_map one (range_with_len 0 n)) (rising n 0 0 (omega arith))

  pub arcs_few : (n a : ℕ) → length (flat_map one (range_with_len a n)) ≤ n
  arcs_few zero a = omega arith
  arcs_few (suc n) a =
      cond_both (b a) (record { event = a; target = t a } ∷ []) [] (λ xs. length (xs ++ flat_map one (range_with_len (a + 1) n)) ≤ suc n)
      (λ _. omega (arith, arcs_few n (a + 1)))
      (λ _. omega (arith, arcs_few n (a + 1)))

  pub arcs_all : (P : Arc → Type 0) (n a : ℕ) → ((r : ℕ) → r < a + n → P (record { event = r; target = t r })) → AllByRecursion P (flat_map one (range_with_len a n))
  arcs_all P zero a h = tt
  arcs_all P (suc n) a h =
      cond_both (b a) (record { event = a; target = t a } ∷ []) [] (λ xs. AllByRecursion P (xs ++ flat_map one (range_with_len (a + 1) n)))
      (λ _. (h a (omega arith), arcs_all P n (a + 1) (λ r l. h r (omega arith))))
      (λ _. arcs_all P n (a + 1) (λ r l. h r (omega arith)))
