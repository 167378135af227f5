-- The open states of a row of places: each is listed once. Relies on Rows.
use Rattle.std.proofs.Common.{◌≡◌, ℕ, zero, suc, ◌<◌, true, false, List, [], ◌∷◌, length, get_or, is_some, Some, None, Option, sym, subst, ⊎_elim, arith}
use Rattle.std.proofs.lemmas.Bool.{cases_Bool}
use Rattle.std.proofs.lemmas.Bool.Decides.{nat_tests}
use Rattle.plant.specs.Model.{Distinct}
use Rattle.book.specs.Records.{names, look, open_states, Holds, Apart}
use Rattle.book.specs.declared.record.Record.{Record}
use Rattle.book.proofs.Rows.{state_named}

-- s stands in a list
abbrev pub In : ℕ → List ℕ → Type 0
In s xs = (i : ℕ) × (i < length xs) × (get_or xs i 0 ≡ s)

-- a state that is found is of some record
held : (rs : List (Option Record)) (s : ℕ) → is_some (look rs s) ≡ true → (k : ℕ) × Holds rs s k
held [] s known = cc
held (x ∷ xs) s known =
    ⊎_elim
    (λ (e : names x s ≡ true). (0, e))
    (λ (e : names x s ≡ false). let more = held xs s (rw e at known) in (suc more.0, more.1))
    (cases_Bool (names x s))

pub known_listed : (rs : List (Option Record)) (s : ℕ) → is_some (look rs s) ≡ true → In s (open_states rs)
known_listed [] s known = cc
known_listed (None ∷ xs) s known = known_listed xs s known
known_listed (Some x ∷ xs) s known =
    ⊎_elim
    (λ (e : names (Some x) s ≡ true). (0, omega arith, sym (state_named x s e)))
    (λ (e : names (Some x) s ≡ false). let more = known_listed xs s (rw e at known) in (suc more.0, omega (arith, more.1), more.2))
    (cases_Bool (names (Some x) s))

-- a record is found under its state
own : (x : Record) → names (Some x) x.state ≡ true
own x = grind (arith, nat_tests)

pub listed_known : (rs : List (Option Record)) (i : ℕ) → i < length (open_states rs) → is_some (look rs (get_or (open_states rs) i 0)) ≡ true
listed_known [] i lt = absurd (omega arith)
listed_known (None ∷ xs) i lt = listed_known xs i lt
listed_known (Some x ∷ xs) zero lt = rw (own x)
listed_known (Some x ∷ xs) (suc i) lt =
    let s = get_or (open_states xs) i 0 in
    ⊎_elim
    (λ (e : names (Some x) s ≡ true). rw e)
    (λ (e : names (Some x) s ≡ false). rw e (listed_known xs i (omega arith)))
    (cases_Bool (names (Some x) s))

-- one state more that is not listed yet
distinct_on : (s : ℕ) (xs : List ℕ) → (In s xs → ⊥) → Distinct xs → Distinct (s ∷ xs)
distinct_on s xs new d zero zero same = omega (arith, same.0)
distinct_on s xs new d zero (suc j) same = new (j, omega (arith, same.1), sym (same.2 0))
distinct_on s xs new d (suc i) zero same = omega (arith, same.0)
distinct_on s xs new d (suc i) (suc j) same = d i j (omega (arith, same.0), omega (arith, same.1), same.2)

pub listed_once : (rs : List (Option Record)) → Apart rs → Distinct (open_states rs)
listed_once [] apart = λ i j same. omega (arith, same.1)
listed_once (x ∷ xs) apart = with_first x (listed_once xs (λ s i j h. apart s (suc i) (suc j) (h.0, h.1, omega (arith, h.2)))) apart
  where
    -- a state that the first record has no other has
    with_first : (x : Option Record) → Distinct (open_states xs) → Apart (x ∷ xs) → Distinct (open_states (x ∷ xs))
    with_first None rest apart = rest
    with_first (Some x) rest apart =
        distinct_on x.state (open_states xs)
        (λ there.
        let at = held xs x.state (subst (λ s. is_some (look xs s) ≡ true) there.2 (listed_known xs there.0 there.1)) in
        apart x.state 0 (suc at.0) (own x, at.1, omega arith))
        rest
