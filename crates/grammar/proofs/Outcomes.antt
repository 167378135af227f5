-- How a reading comes out says what the text begins. Assumes nothing.
use Rattle.std.proofs.Common.{◌≡◌, ℕ, zero, suc, ◌+◌, ◌-◌, ◌*◌, ◌<◌, Bool, true, false, cond, ltb, List, [], ◌∷◌, length, take, sym, refl, ap, ◌∙◌, subst, ⊎_elim, arith}
use Rattle.std.proofs.lemmas.Bool.{cond-true, cond-false, lt-ltb, ltb-true, both_ways, cases_Bool}
use Rattle.grammar.specs.Phrases.{loose, strict, Begins, Is}
use Rattle.grammar.specs.Machine.{Part, phrase, op, num, more, lit, Move, stop, to, digit, move, final, good, not, fault, on, outcome}
use Rattle.grammar.specs.declared.Name.{Name}
use Rattle.grammar.specs.declared.Name.TheVariants.{Fact, Enabled, Taken}
use Rattle.grammar.specs.declared.Fault.{Fault}
use Rattle.grammar.specs.declared.Fault.TheVariants.{Byte, End, Number}
use Rattle.grammar.proofs.Alive.{go, alive, accepts, Limits, begins_alive, is_accepted}
use Rattle.grammar.proofs.Words.{alive_begins}

pub strict_limits : Limits strict
strict_limits Fact = (omega arith, omega arith)
strict_limits Enabled = (omega arith, omega arith)
strict_limits Taken = (omega arith, omega arith)

pub loose_limits : Limits loose
loose_limits n = (omega arith, omega arith)

-- what moves within range moves
pub wider : (k : List Part) (c : ℕ) (k' : List Part) → move strict k c ≡ to k' → move loose k c ≡ to k'
wider [] c k' h = h
wider (phrase ∷ k) c k' h = h
wider (op ∷ k) c k' h = h
wider (num n ∷ k) c k' h = h
wider (lit q ∷ k) c k' h = h
wider (more n d ∷ k) c k' h = ⊎_elim yea (λ dg. cond-false (digit c) _ _ dg ∙ wider k c k' (sym (cond-false (digit c) _ _ dg) ∙ h)) (cases_Bool (digit c))
  where
    inner : digit c ≡ true → cond (ltb (d * 10 + (c - 48)) (strict n)) (to k) stop ≡ to k'
    inner dg = sym (cond-true (digit c) _ _ dg) ∙ h

    yea : digit c ≡ true → move loose (more n d ∷ k) c ≡ to k'
    yea dg =
        ⊎_elim
        (λ lt. let v = ltb-true _ _ lt in let m = strict_limits n in cond-true (digit c) _ _ dg ∙ cond-true (ltb (d * 10 + (c - 48)) 100) _ _ (lt-ltb _ _ (omega arith)) ∙ sym (cond-true (ltb (d * 10 + (c - 48)) (strict n)) _ _ lt) ∙ inner dg)
        (λ ge. let z : stop ≡ to k' = sym (cond-false (ltb (d * 10 + (c - 48)) (strict n)) _ _ ge) ∙ inner dg in let q : ◌≡◌ {A = ℕ} 0 1 = cc in absurd (omega arith))
        (cases_Bool (ltb (d * 10 + (c - 48)) (strict n)))

-- byte n of s has no move
record Stops (k : List Part) (i j : ℕ) (s : List ℕ) : Type 0 where
  n : ℕ
  place : j ≡ i + n
  inside : n < length s
  before : alive strict k (take n s) ≡ true
  here : alive loose k (take (suc n) s) ≡ false

-- byte n of s has a move only with a number out of range
record Passes (k : List Part) (i j : ℕ) (s : List ℕ) : Type 0 where
  n : ℕ
  place : j ≡ i + n - 1
  inside : n < length s
  before : alive strict k (take n s) ≡ true
  here : alive strict k (take (suc n) s) ≡ false
  lets : alive loose k (take (suc n) s) ≡ true

module _ (k : List Part) (i : ℕ) (c : ℕ) (s : List ℕ) where
  goes : (l : Name → ℕ) (k' : List Part) (s : List ℕ) → move l k c ≡ to k' → alive l k (c ∷ s) ≡ alive l k' s
  goes l k' s eq = ap (λ m. go m (λ k'. alive l k' s)) eq

  halts : (l : Name → ℕ) (s : List ℕ) → move l k c ≡ stop → alive l k (c ∷ s) ≡ false
  halts l s eq = ap (λ m. go m (λ k'. alive l k' s)) eq

  wrong_stop : (m : Move) → move loose k c ≡ m → (j : ℕ) → fault m i ≡ not (Byte j) → move strict k c ≡ stop → Stops k i j (c ∷ s)
  wrong_stop stop eq j h st = record { n = 0; place = let q : i ≡ j = cc in omega arith; inside = omega arith; before = refl; here = halts loose [] eq }
  wrong_stop (to k') eq j h st = let q : ◌≡◌ {A = ℕ} 0 1 = cc in absurd (omega arith)

  big_stop : (m : Move) → move loose k c ≡ m → (j : ℕ) → fault m i ≡ not (Number j) → move strict k c ≡ stop → Passes k i j (c ∷ s)
  big_stop stop eq j h st = let q : ◌≡◌ {A = ℕ} 0 1 = cc in absurd (omega arith)
  big_stop (to k') eq j h st = record { n = 0; place = let q : i - 1 ≡ j = cc in omega arith; inside = omega arith; before = refl; here = halts strict [] st; lets = goes loose k' [] eq }

  wrong_step : (m : Move) → move strict k c ≡ m → (j : ℕ) → on m (fault (move loose k c) i) (λ k'. outcome k' (i + 1) s) ≡ not (Byte j) → ((k' : List Part) → outcome k' (i + 1) s ≡ not (Byte j) → Stops k' (i + 1) j s) → Stops k i j (c ∷ s)
  wrong_step stop eq j h ih = wrong_stop (move loose k c) refl j h eq
  wrong_step (to k') eq j h ih =
      let r = ih k' h in
      record {
        n = suc r.n;
        place = omega (arith, r.place);
        inside = omega (arith, r.inside);
        before = goes strict k' (take r.n s) eq ∙ r.before;
        here = goes loose k' (take (suc r.n) s) (wider k c k' eq) ∙ r.here;
      }

  big_step : (m : Move) → move strict k c ≡ m → (j : ℕ) → on m (fault (move loose k c) i) (λ k'. outcome k' (i + 1) s) ≡ not (Number j) → ((k' : List Part) → outcome k' (i + 1) s ≡ not (Number j) → Passes k' (i + 1) j s) → Passes k i j (c ∷ s)
  big_step stop eq j h ih = big_stop (move loose k c) refl j h eq
  big_step (to k') eq j h ih =
      let r = ih k' h in
      record {
        n = suc r.n;
        place = omega (arith, r.place);
        inside = omega (arith, r.inside);
        before = goes strict k' (take r.n s) eq ∙ r.before;
        here = goes strict k' (take (suc r.n) s) eq ∙ r.here;
        lets = goes loose k' (take (suc r.n) s) (wider k c k' eq) ∙ r.lets;
      }

  short_stop : (m : Move) → fault m i ≡ not End → ⊥
  short_stop stop h = let q : ◌≡◌ {A = ℕ} 0 1 = cc in omega arith
  short_stop (to k') h = let q : ◌≡◌ {A = ℕ} 0 1 = cc in omega arith

  short_step : (m : Move) → move strict k c ≡ m → on m (fault (move loose k c) i) (λ k'. outcome k' (i + 1) s) ≡ not End → ((k' : List Part) → outcome k' (i + 1) s ≡ not End → (alive strict k' s ≡ true) × (accepts strict k' s ≡ false)) → (alive strict k (c ∷ s) ≡ true) × (accepts strict k (c ∷ s) ≡ false)
  short_step stop eq h ih = absurd (short_stop (move loose k c) h)
  short_step (to k') eq h ih = let r = ih k' h in (goes strict k' s eq ∙ r.0, ap (λ m. go m (λ k'. accepts strict k' s)) eq ∙ r.1)

at_end : (q : Bool) (r : Fault) → cond q good (not r) ≡ not r → q ≡ false
at_end true r h = let z : ◌≡◌ {A = ℕ} 0 1 = cc in absurd (omega arith)
at_end false r h = refl

at_end_is : (q : Bool) (r : Fault) → cond q good (not End) ≡ not r → r ≡ End
at_end_is true r h = let z : ◌≡◌ {A = ℕ} 0 1 = cc in absurd (omega arith)
at_end_is false r h = cc

wrong : (k : List Part) (i : ℕ) (s : List ℕ) (j : ℕ) → outcome k i s ≡ not (Byte j) → Stops k i j s
wrong k i [] j h = let z = at_end_is (final k) (Byte j) h in let q : ◌≡◌ {A = ℕ} 0 1 = cc in absurd (omega arith)
wrong k i (c ∷ s) j h = wrong_step k i c s (move strict k c) refl j h (λ k' h'. wrong k' (i + 1) s j h')

big : (k : List Part) (i : ℕ) (s : List ℕ) (j : ℕ) → outcome k i s ≡ not (Number j) → Passes k i j s
big k i [] j h = let z = at_end_is (final k) (Number j) h in let q : ◌≡◌ {A = ℕ} 0 1 = cc in absurd (omega arith)
big k i (c ∷ s) j h = big_step k i c s (move strict k c) refl j h (λ k' h'. big k' (i + 1) s j h')

short : (k : List Part) (i : ℕ) (s : List ℕ) → outcome k i s ≡ not End → (alive strict k s ≡ true) × (accepts strict k s ≡ false)
short k i [] h = (refl, at_end (final k) End h)
short k i (c ∷ s) h = short_step k i c s (move strict k c) refl h (λ k' h'. short k' (i + 1) s h')

module _ (s : List ℕ) where
  pub wrong_says : (i : ℕ) → outcome (phrase ∷ []) 0 s ≡ not (Byte i) → (i < length s) × Begins strict (take i s) × (Begins loose (take (i + 1) s) → ⊥)
  wrong_says i h =
      let r = wrong (phrase ∷ []) 0 s i h in
      let eq : r.n ≡ i = omega (arith, r.place) in
      let more : suc r.n ≡ i + 1 = omega (arith, r.place) in (
        omega (arith, r.place, r.inside),
        alive_begins strict strict_limits (take i s) (subst (λ n. alive strict (phrase ∷ []) (take n s) ≡ true) eq r.before),
        λ b. both_ways _ (subst (λ n. alive loose (phrase ∷ []) (take n s) ≡ false) more r.here) (begins_alive loose loose_limits _ b),
      )

  pub short_says : outcome (phrase ∷ []) 0 s ≡ not End → Begins strict s × (Is strict s → ⊥)
  short_says h =
      let r = short (phrase ∷ []) 0 s h in
      (alive_begins strict strict_limits s r.0, λ b. both_ways _ r.1 (is_accepted strict strict_limits s b))

-- the first byte has a move with any number or with none
same_first : (s : List ℕ) → alive strict (phrase ∷ []) (take 1 s) ≡ alive loose (phrase ∷ []) (take 1 s)
same_first [] = refl
same_first (c ∷ s) = refl

module _ (s : List ℕ) where
  big_says : (i n : ℕ) → i ≡ 0 + n - 1 → n < length s → alive strict (phrase ∷ []) (take n s) ≡ true → alive strict (phrase ∷ []) (take (suc n) s) ≡ false → alive loose (phrase ∷ []) (take (suc n) s) ≡ true → (i + 1 < length s) × Begins strict (take (i + 1) s) × Begins loose (take (i + 2) s) × (Begins strict (take (i + 2) s) → ⊥)
  big_says i zero place inside before here lets = absurd (both_ways _ here (same_first s ∙ lets))
  big_says i (suc n) place inside before here lets =
      let eq : suc n ≡ i + 1 = omega arith in
      let more : suc (suc n) ≡ i + 2 = omega arith in (
        omega arith,
        alive_begins strict strict_limits _ (subst (λ n. alive strict (phrase ∷ []) (take n s) ≡ true) eq before),
        alive_begins loose loose_limits _ (subst (λ n. alive loose (phrase ∷ []) (take n s) ≡ true) more lets),
        λ b. both_ways _ (subst (λ n. alive strict (phrase ∷ []) (take n s) ≡ false) more here) (begins_alive strict strict_limits _ b),
      )

  pub big_is : (i : ℕ) → outcome (phrase ∷ []) 0 s ≡ not (Number i) → (i + 1 < length s) × Begins strict (take (i + 1) s) × Begins loose (take (i + 2) s) × (Begins strict (take (i + 2) s) → ⊥)
  big_is i h = let r = big (phrase ∷ []) 0 s i h in big_says i r.n r.place r.inside r.before r.here r.lets
