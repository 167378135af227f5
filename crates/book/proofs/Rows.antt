-- Rows of places: what is found, added and taken away. Assumes nothing.
use Rattle.std.proofs.Common.{◌≡◌, ℕ, zero, suc, ◌+◌, ◌<◌, ◌≤◌, Bool, true, false, cond, eqb, ◌≢◌, List, [], ◌∷◌, length, get_or, set, replicate, is_some, is_none, Some, None, Option, sym, refl, ap, ◌∙◌, subst, ⊎_elim, arith, MatchOption, position, count_by, lt-ltb, le-ltb}
use Rattle.std.specs.Option.{option_map}
use Rattle.std.specs.List.{position_or_len}
use Rattle.std.proofs.lemmas.List.{get_or_past, get_or-set_same, get_or-set_other}
use Rattle.std.proofs.lemmas.List.Recursion.{is_count_by}
use Rattle.std.proofs.lemmas.List.Sums.{count_by-le-length, fails_before_first, passes_at_first}
use Rattle.std.proofs.lemmas.Bool.{cases_lt, cases_eq, cases_Bool}
use Rattle.std.proofs.lemmas.Bool.Decides.{nat_tests}
use Rattle.book.specs.Records.{saying_of, names, look, open_states, Holds, Apart, Few, Adds, Drops}
use Rattle.book.specs.declared.record.Record.{Record}

-- in a row of empty places, and past its end, nothing stands
nothing : (n i : ℕ) → get_or (replicate {A = Option Record} n None) i None ≡ None
nothing zero i = refl
nothing (suc n) zero = refl
nothing (suc n) (suc i) = nothing n i

pub empty_apart : (n : ℕ) → Apart (replicate n None)
empty_apart n s i j h = let e = rw (nothing n i) at h.0 in cc

pub empty_few : (n : ℕ) → Few (replicate n None)
empty_few n i x e = let z = sym (nothing n i) ∙ e in cc

-- what is known of the first place at which a test passes, or of all where there is none
pub first : {X : Type 0} (p : X → Bool) (xs : List X) (d : X) → MatchOption (position p xs) ((k : ℕ) → k < length xs → p (get_or xs k d) ≡ true → ⊥) (λ i. (i < length xs) × (p (get_or xs i d) ≡ true))
first p xs d =
    ⊎_elim
    (λ (lt : position_or_len p xs < length xs). rw (lt-ltb (position_or_len p xs) (length xs) lt) (lt, passes_at_first p xs d lt))
    (λ (le : length xs ≤ position_or_len p xs).
    rw (le-ltb (position_or_len p xs) (length xs) le) (λ k l e. let f = fails_before_first p xs k d (omega arith) in cc))
    (cases_lt (position_or_len p xs) (length xs))

-- no record is of s
pub look_none : (rs : List (Option Record)) (s : ℕ) → ((k : ℕ) → k < length rs → Holds rs s k → ⊥) → look rs s ≡ None
look_none [] s h = refl
look_none (x ∷ xs) s h =
    ⊎_elim
    (λ (e : names x s ≡ true). absurd (h 0 (omega arith) e))
    (λ (e : names x s ≡ false). rw e (look_none xs s (λ k l g. h (suc k) (omega arith) g)))
    (cases_Bool (names x s))

pub state_named : (r : Record) (s : ℕ) → names (Some r) s ≡ true → s ≡ r.state
state_named r s h = grind (arith, nat_tests)

pub names_same : (r : Option Record) (s t : ℕ) → names r s ≡ true → names r t ≡ true → s ≡ t
names_same None s t p q = cc
names_same (Some r) s t p q = state_named r s p ∙ sym (state_named r t q)

-- two tests that never both hold
apart_conds : {X : Type 0} (u v w : X) (a b : Bool) → (a ≡ true → b ≡ true → ⊥) → cond a u (cond b v w) ≡ cond b v (cond a u w)
apart_conds u v w true true h = absurd (h refl refl)
apart_conds u v w true false h = refl
apart_conds u v w false b h = refl

pub put_look : (rs : List (Option Record)) (i : ℕ) (r : Record) → i < length rs → is_none (get_or rs i None) ≡ true → ((k : ℕ) → k < length rs → Holds rs r.state k → ⊥) → Adds (look rs) r.state (saying_of r) (look (set rs i (Some r)))
put_look [] i r l c f t = absurd (omega arith)
put_look (None ∷ xs) zero r l c f t = refl
put_look (Some x ∷ xs) zero r l c f t = cc
put_look (x ∷ xs) (suc i) r l c f t =
    let again = put_look xs i r (omega arith) c (λ k h g. f (suc k) (omega arith) g) t in
    rw again (apart_conds _ _ _ (names x t) (eqb r.state t) (λ n e. f 0 (omega arith) (let same : r.state ≡ t = grind (arith, nat_tests) in rw same n)))

-- past the end no record stands
pub inside : (rs : List (Option Record)) (s m : ℕ) → Holds rs s m → m < length rs
inside rs s m h =
    ⊎_elim
    (λ (l : m < length rs). l)
    (λ (l : length rs ≤ m). let e = rw (get_or_past rs m None l) at h in cc)
    (cases_lt m (length rs))

pub put_apart : (rs : List (Option Record)) (i : ℕ) (r : Record) → i < length rs → ((k : ℕ) → k < length rs → Holds rs r.state k → ⊥) → Apart rs → Apart (set rs i (Some r))
put_apart rs i r l f a s j k h =
    let at : (m : ℕ) → Holds (set rs i (Some r)) s m → (m ≡ i → ⊥) → Holds rs s m = λ m g e. rw get_or-set_other at g in
    let here : (m : ℕ) → Holds (set rs i (Some r)) s m → m ≡ i → s ≡ r.state = λ m g e. state_named r s (rw get_or-set_same at (rw e at g)) in
    ⊎_elim
    (λ (e : j ≡ i). ⊎_elim
    (λ (d : k ≡ i). omega arith)
    (λ (d : k ≡ i → ⊥). f k (inside rs s k (at k h.1 d)) (rw (here j h.0 e) at (at k h.1 d)))
    (cases_eq k i))
    (λ (e : j ≡ i → ⊥). ⊎_elim
    (λ (d : k ≡ i). f j (inside rs s j (at j h.0 e)) (rw (here k h.1 d) at (at j h.0 e)))
    (λ (d : k ≡ i → ⊥). a s j k (at j h.0 e, at k h.1 d, h.2))
    (cases_eq k i))
    (cases_eq j i)

pub put_few : (rs : List (Option Record)) (i : ℕ) (r : Record) → i < length rs → r.count ≤ 16 → Few rs → Few (set rs i (Some r))
put_few rs i r l c f k x e =
    ⊎_elim
    (λ (same : k ≡ i). let at = sym (get_or-set_same rs i (Some r) None l) ∙ (λ j. get_or (set rs i (Some r)) (sym same j) None) ∙ e in let is : r ≡ x = cc in subst (λ (y : Record). y.count ≤ 16) is c)
    (λ (other : k ≢ i). f k x (sym (get_or-set_other rs i k (Some r) None other) ∙ e))
    (cases_eq k i)

pub clear_look : (rs : List (Option Record)) (i s : ℕ) → i < length rs → Apart rs → Holds rs s i → Drops (look rs) s (look (set rs i None))
clear_look [] i s l a h t = absurd (omega arith)
clear_look (x ∷ xs) zero s l a h t =
    ⊎_elim
    (λ (e : eqb s t ≡ true).
    let same : s ≡ t = grind (arith, nat_tests) in
    rw e (look_none xs t (λ k g b. a t 0 (suc k) (rw same at h, b, omega arith))))
    (λ (e : eqb s t ≡ false).
    rw e (⊎_elim (λ (n : names x t ≡ true). let same = names_same x s t h n in let z : eqb s t ≡ true = grind (arith, nat_tests) in cc) (λ (n : names x t ≡ false). rw n) (cases_Bool (names x t))))
    (cases_Bool (eqb s t))
clear_look (x ∷ xs) (suc i) s l a h t =
    let again = clear_look xs i s (omega arith) (λ u j k g. a u (suc j) (suc k) (g.0, g.1, omega (arith, g.2))) h t in
    rw again (apart_conds _ _ _ (names x t) (eqb s t) (λ n e. let same : s ≡ t = grind (arith, nat_tests) in a t 0 (suc i) (n, rw same at h, omega arith)))

-- the record of s is the one that is found
pub look_at : (rs : List (Option Record)) (s i : ℕ) → Apart rs → Holds rs s i → look rs s ≡ option_map saying_of (get_or rs i None)
look_at [] s i a h = cc
look_at (x ∷ xs) s zero a h = rw h
look_at (x ∷ xs) s (suc i) a h =
    ⊎_elim
    (λ (e : names x s ≡ true). absurd (a s 0 (suc i) (e, h, omega arith)))
    (λ (e : names x s ≡ false). rw e (look_at xs s i (λ u j k g. a u (suc j) (suc k) (g.0, g.1, omega (arith, g.2))) h))
    (cases_Bool (names x s))

-- a place that is of a state says something
says_some : (r : Option Record) (s : ℕ) → names r s ≡ true → is_some (option_map saying_of r) ≡ true
says_some None s h = cc
says_some (Some r) s h = refl

pub look_some : (rs : List (Option Record)) (s i : ℕ) → Apart rs → Holds rs s i → is_some (look rs s) ≡ true
look_some rs s i a h = ap is_some (look_at rs s i a h) ∙ says_some (get_or rs i None) s h

-- a state that is not found is of no record
pub not_held : (rs : List (Option Record)) (s : ℕ) → Apart rs → look rs s ≡ None → (k : ℕ) → k < length rs → Holds rs s k → ⊥
not_held rs s a none k l h = let e = sym (ap is_some none) ∙ look_some rs s k a h in cc

-- as many states are open as places are taken
pub open_count : (rs : List (Option Record)) → length (open_states rs) ≡ count_by is_some rs
open_count rs = is_count_by (λ rs. length (open_states rs)) is_some refl one rs
  where
    one : (x : Option Record) (xs : List (Option Record)) → length (open_states (x ∷ xs)) ≡ cond (is_some x) (1 + length (open_states xs)) (length (open_states xs))
    one None xs = refl
    one (Some r) xs = omega arith

-- every place is taken
pub all_open : (rs : List (Option Record)) → ((k : ℕ) → k < length rs → is_none (get_or rs k None) ≡ true → ⊥) → length (open_states rs) ≡ length rs
all_open [] h = refl
all_open (None ∷ xs) h = absurd (h 0 (omega arith) refl)
all_open (Some x ∷ xs) h = ap suc (all_open xs (λ k l. h (suc k) (omega arith)))

-- a place that is empty leaves room
pub room : (rs : List (Option Record)) (i : ℕ) → i < length rs → is_none (get_or rs i None) ≡ true → length (open_states rs) < length rs
room [] i l h = absurd (omega arith)
room (None ∷ xs) zero l h = omega (arith, open_count xs, count_by-le-length is_some xs)
room (Some x ∷ xs) zero l h = cc
room (None ∷ xs) (suc i) l h = omega (arith, room xs i (omega arith) h)
room (Some x ∷ xs) (suc i) l h = omega (arith, room xs i (omega arith) h)
