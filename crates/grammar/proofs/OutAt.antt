-- Where a number out of range stops a text. Assumes nothing.
use Rattle.std.proofs.Common.{◌≡◌, ℕ, zero, suc, ◌+◌, ◌-◌, ◌*◌, ◌≤◌, true, false, cond, eqb, ltb, List, [], ◌∷◌, ◌++◌, get_or, take, sym, refl, ap, ◌∙◌, subst, ⊎_elim, arith}
use Rattle.std.proofs.lemmas.Bool.{cond_both, cond-true, cond-false, eqb-false, ltb-false, both_ways, cases_Bool}
use Rattle.refusal.specs.Causes.{Gives}
use Rattle.refusal.specs.declared.Layer.TheVariants.{Text}
use Rattle.refusal.specs.declared.Refusal.{Refusal}
use Rattle.grammar.specs.Phrases.{opening, loose, strict, Begins}
use Rattle.grammar.specs.Texts.{OutAt, NumberThere, Refused, by_length, by_byte, by_end, by_range, by_table}
use Rattle.grammar.specs.Machine.{Part, phrase, op, num, more, lit, Move, stop, to, digit, name_parts, begin, across, move}
use Rattle.grammar.specs.declared.Name.{Name}
use Rattle.grammar.specs.declared.Name.TheVariants.{Fact, Enabled, Taken}
use Rattle.grammar.proofs.Alive.{go, alive, go_stop, begins_alive}
use Rattle.grammar.proofs.Marks.{by_mark, by_joint, digit_bounds}
use Rattle.grammar.proofs.Words.{alive_begins}
use Rattle.grammar.proofs.Outcomes.{strict_limits, loose_limits, wider}

-- no number is to come first or later
abbrev Plain : List Part → Type 0
Plain [] = Unit {0}
Plain (phrase ∷ k) = Plain k
Plain (op ∷ k) = Plain k
Plain (num n ∷ k) = ⊥
Plain (more n d ∷ k) = ⊥
Plain (lit b ∷ k) = Plain k

-- what is to come, by the last two bytes
abbrev Follows : ℕ → ℕ → List Part → Type 0
Follows a b [] = Unit {0}
Follows a b (phrase ∷ k) = Plain k
Follows a b (op ∷ k) = Plain k
Follows a b (num n ∷ k) = (b ≡ opening n) × Plain k
Follows a b (more n d ∷ k) = (a ≡ opening n) × (49 ≤ b) × (b ≤ 57) × (d ≡ b - 48) × Plain k
Follows a b (lit q ∷ k) = Plain k

plainly : (a b : ℕ) (k : List Part) → Plain k → Follows a b k
plainly a b [] h = tt
plainly a b (phrase ∷ k) h = h
plainly a b (op ∷ k) h = h
plainly a b (num n ∷ k) h = absurd h
plainly a b (more n d ∷ k) h = absurd h
plainly a b (lit q ∷ k) h = h

abbrev After : ℕ → ℕ → Move → Type 0
After a b stop = Unit {0}
After a b (to k) = Follows a b k

opened : (a : Name) (b : ℕ) (k : List Part) → Plain k → Follows b (opening a) (name_parts a ++ k)
opened Fact b k h = (refl, h)
opened Enabled b k h = (refl, h)
opened Taken b k h = (refl, h)

plain_step : (l : Name → ℕ) (b c : ℕ) (k : List Part) → Plain k → After b c (move l k c)
plain_step l b c [] h = tt
plain_step l b c (phrase ∷ k) h =
    by_mark (λ c m. After b c (begin m k)) (plainly b 84 k h) (λ a. opened a b k h) (λ x. h) h c tt
plain_step l b c (op ∷ k) h = by_joint (λ c o. After b c (across o k)) (λ j. plainly b _ k h) c tt
plain_step l b c (num n ∷ k) h = absurd h
plain_step l b c (more n d ∷ k) h = absurd h
plain_step l b c (lit q ∷ k) h = cond_both (eqb c q) (to k) stop (After b c) (λ _. plainly b c k h) (λ _. tt)

one_step : (l : Name → ℕ) (a b c : ℕ) (k : List Part) → Follows a b k → After b c (move l k c)
one_step l a b c [] h = tt
one_step l a b c (phrase ∷ k) h = plain_step l b c (phrase ∷ k) h
one_step l a b c (op ∷ k) h = plain_step l b c (op ∷ k) h
one_step l a b c (num n ∷ k) h =
    cond_both (eqb c 48) (to k) (cond (digit c) (to (more n (c - 48) ∷ k)) stop) (After b c)
    (λ _. plainly b c k h.1)
    (λ ne. cond_both (digit c) (to (more n (c - 48) ∷ k)) stop (After b c)
    (λ dg. let bd = digit_bounds c dg in let ne' = eqb-false c 48 ne in (h.0, omega arith, bd.1, refl, h.1))
    (λ _. tt))
one_step l a b c (more n d ∷ k) h =
    cond_both (digit c) (cond (ltb (d * 10 + (c - 48)) (l n)) (to k) stop) (move l k c) (After b c)
    (λ _. cond_both (ltb (d * 10 + (c - 48)) (l n)) (to k) stop (After b c) (λ _. plainly b c k h.4) (λ _. tt))
    (λ _. plain_step l b c k h.4)
one_step l a b c (lit q ∷ k) h = plain_step l b c (lit q ∷ k) h

same : (c : ℕ) (k : List Part) → Plain k → move strict k c ≡ move loose k c
same c [] h = refl
same c (phrase ∷ k) h = refl
same c (op ∷ k) h = refl
same c (num n ∷ k) h = absurd h
same c (more n d ∷ k) h = absurd h
same c (lit q ∷ k) h = refl

apart : (m m' : Move) (k : List Part) → m ≡ stop → m' ≡ to k → m ≡ m' → ⊥
apart m m' k p q r = let z : ◌≡◌ {A = ℕ} 0 1 = cc in omega arith

-- a number out of range: its letter, its digits
record Out (a b c : ℕ) : Type 0 where
  name : Name
  opens : a ≡ opening name
  tens : (49 ≤ b) × (b ≤ 57)
  ones : (48 ≤ c) × (c ≤ 57)
  out : strict name ≤ (b - 48) * 10 + (c - 48)

differ : (a b c : ℕ) (k k' : List Part) → Follows a b k → move strict k c ≡ stop → move loose k c ≡ to k' → Out a b c
differ a b c [] k' h st go' = absurd (apart _ _ _ st go' refl)
differ a b c (phrase ∷ k) k' h st go' = absurd (apart _ _ _ st go' refl)
differ a b c (op ∷ k) k' h st go' = absurd (apart _ _ _ st go' refl)
differ a b c (num n ∷ k) k' h st go' = absurd (apart _ _ _ st go' refl)
differ a b c (lit q ∷ k) k' h st go' = absurd (apart _ _ _ st go' refl)
differ a b c (more n d ∷ k) k' h st go' = ⊎_elim yea nay (cases_Bool (digit c))
  where
    nay : digit c ≡ false → Out a b c
    nay dg = absurd (apart _ _ _ st go' (cond-false (digit c) _ _ dg ∙ same c k h.4 ∙ sym (cond-false (digit c) _ _ dg)))

    inner : digit c ≡ true → cond (ltb (d * 10 + (c - 48)) (strict n)) (to k) stop ≡ stop
    inner dg = sym (cond-true (digit c) _ _ dg) ∙ st

    yea : digit c ≡ true → Out a b c
    yea dg =
        ⊎_elim
        (λ lt. absurd (apart _ _ k (inner dg) (cond-true (ltb (d * 10 + (c - 48)) (strict n)) _ _ lt) refl))
        (λ ge. let v = ltb-false _ _ ge in record { name = n; opens = h.0; tens = (h.1, h.2); ones = digit_bounds c dg; out = omega (arith, h.3) })
        (cases_Bool (ltb (d * 10 + (c - 48)) (strict n)))

go_false : (m : Move) → go m (λ _. true) ≡ false → m ≡ stop
go_false stop h = refl
go_false (to k) h = absurd (both_ways true h refl)

found : (k : List Part) (a b n : ℕ) (s : List ℕ) → Follows a b k → alive strict k (take n s) ≡ true → alive strict k (take (suc n) s) ≡ false → alive loose k (take (suc n) s) ≡ true → Out (get_or (a ∷ b ∷ s) n 0) (get_or (a ∷ b ∷ s) (suc n) 0) (get_or (a ∷ b ∷ s) (suc (suc n)) 0)
found k a b zero [] f y h o = absurd (both_ways true h refl)
found k a b (suc n) [] f y h o = absurd (both_ways true h refl)
found k a b zero (c ∷ s) f y h o = let z = go_stop (move loose k c) _ o in differ a b c k z.0 f (go_false (move strict k c) h) z.1
found k a b (suc n) (c ∷ s) f y h o =
    let z = go_stop (move strict k c) _ y in
    found z.0 b c n s
    (subst (After b c) z.1 (one_step strict a b c k f))
    z.2
    (sym (ap (λ m. go m (λ k'. alive strict k' (take (suc n) s))) z.1) ∙ h)
    (sym (ap (λ m. go m (λ k'. alive loose k' (take (suc n) s))) (wider k c z.0 z.1)) ∙ o)

not_zero : (a : Name) → 0 ≡ opening a → ⊥
not_zero Fact h = omega arith
not_zero Enabled h = omega arith
not_zero Taken h = omega arith

dead : (l : Name → ℕ) (s : List ℕ) → (alive l (phrase ∷ []) s ≡ true → ⊥) → alive l (phrase ∷ []) s ≡ false
dead l s h = ⊎_elim (λ y. absurd (h y)) (λ n. n) (cases_Bool (alive l (phrase ∷ []) s))

at : (xs : List ℕ) (i : ℕ) → Out (get_or (0 ∷ 0 ∷ xs) (suc i) 0) (get_or (0 ∷ 0 ∷ xs) (suc (suc i)) 0) (get_or (0 ∷ 0 ∷ xs) (suc (suc (suc i))) 0) → OutAt xs i
at xs zero o = absurd (not_zero o.name o.opens)
at xs (suc i) o =
    let one : suc i - 1 ≡ i = omega arith in
    let two : suc i + 1 ≡ suc (suc i) = omega arith in
    record {
      name = o.name;
      after = omega arith;
      opens = subst (λ n. get_or xs n 0 ≡ opening o.name) (sym one) o.opens;
      tens = o.tens;
      ones = subst (λ n. (48 ≤ get_or xs n 0) × (get_or xs n 0 ≤ 57)) (sym two) o.ones;
      out = subst (λ n. strict o.name ≤ (get_or xs (suc i) 0 - 48) * 10 + (get_or xs n 0 - 48)) (sym two) o.out;
    }

out_at : (xs : List ℕ) (i : ℕ) → Begins strict (take (i + 1) xs) → Begins loose (take (i + 2) xs) → (Begins strict (take (i + 2) xs) → ⊥) → OutAt xs i
out_at xs i a c d =
    let one : i + 1 ≡ suc i = omega arith in
    let two : i + 2 ≡ suc (suc i) = omega arith in
    at xs i
    (found (phrase ∷ []) 0 0 (suc i) xs tt
    (subst (λ n. alive strict (phrase ∷ []) (take n xs) ≡ true) one (begins_alive strict strict_limits _ a))
    (subst (λ n. alive strict (phrase ∷ []) (take n xs) ≡ false) two (dead strict _ (λ y. d (alive_begins strict strict_limits _ y))))
    (subst (λ n. alive loose (phrase ∷ []) (take n xs) ≡ true) two (begins_alive loose loose_limits _ c)))

by_rule : (xs : List ℕ) (i : ℕ) (r : Refusal) → Gives r 24 Text i → Refused xs r → OutAt xs i
by_rule xs i r q (by_length h g) = absurd (omega (arith, q.by_number, g.by_number))
by_rule xs i r q (by_byte s j lt a c g) = absurd (omega (arith, q.by_number, g.by_number))
by_rule xs i r q (by_end s a c g) = absurd (omega (arith, q.by_number, g.by_number))
by_rule xs i r q (by_range s j lt a c d g) = subst (OutAt xs) (sym g.at_place ∙ q.at_place) (out_at xs j a c d)
by_rule xs i r q (by_table s a c g) = absurd (omega (arith, q.by_number, g.by_number))

pub number_there : NumberThere
number_there xs i r q h = by_rule xs i r q h
