-- Which texts begin a phrase: each byte has a move. Assumes nothing.
use Rattle.std.proofs.Common.{◌≡◌, ℕ, ◌+◌, ◌-◌, ◌*◌, ◌/◌, ◌%◌, ◌<◌, ◌≤◌, Bool, true, false, eqb, ltb, List, [], ◌∷◌, ◌++◌, sym, refl, ap, ◌∙◌, subst, ⊎_elim, append_assoc, append-nil, arith}
use Rattle.std.proofs.lemmas.Bool.{cases_lt, cases_eq, cond-true, cond-false, lt-ltb, le-ltb, ne_eqb, both_ways}
use Rattle.std.proofs.lemmas.Bool.Decides.{nat_tests}
use Rattle.grammar.specs.Phrases.{Phrase, truth, named, prefixed, joined, digits, closing, sign, write, Within, Begins, Is}
use Rattle.grammar.specs.Machine.{Part, phrase, op, num, more, lit, Move, stop, to, digit, name_parts, begin, across, move, final}
use Rattle.grammar.specs.declared.Name.{Name}
use Rattle.grammar.specs.declared.Name.TheVariants.{Fact, Enabled, Taken}
use Rattle.grammar.proofs.Marks.{mark_84, mark_40, mark_opening, mark_letter, joint_sign, sign_clear, Clear, shape}

abbrev pub go : Move → (List Part → Bool) → Bool
go stop j = false
go (to k) j = j k

-- each byte has a move, and what is to come in the end passes a test
abbrev pub run : (Name → ℕ) → (List Part → Bool) → List Part → List ℕ → Bool
run l end k [] = end k
run l end k (c ∷ s) = go (move l k c) (λ k'. run l end k' s)

-- each byte has a move
abbrev pub alive : (Name → ℕ) → List Part → List ℕ → Bool
alive l k s = run l (λ _. true) k s

-- and nothing more has to come
abbrev pub accepts : (Name → ℕ) → List Part → List ℕ → Bool
accepts l k s = run l final k s

pub go_stop : (m : Move) (j : List Part → Bool) → go m j ≡ true → (k : List Part) × (m ≡ to k) × (j k ≡ true)
go_stop stop j h = absurd (both_ways false refl h)
go_stop (to k) j h = (k, refl, h)

pub alive_left : (l : Name → ℕ) (k : List Part) (s v : List ℕ) → alive l k (s ++ v) ≡ true → alive l k s ≡ true
alive_left l k [] v h = refl
alive_left l k (c ∷ s) v h =
    let z = go_stop (move l k c) _ h in
    ap (λ m. go m (λ k'. alive l k' s)) z.1 ∙ alive_left l z.0 s v z.2

-- limits on numbers of two digits
abbrev pub Limits : (Name → ℕ) → Type 0
Limits l = (a : Name) → (10 ≤ l a) × (l a ≤ 100)

module _ (l : Name → ℕ) (lim : Limits l) (end : List Part → Bool) (skip : (a : Name) (d : ℕ) (k : List Part) → end (more a d ∷ k) ≡ end k) where
  one_back : (a : Name) (d : ℕ) (k : List Part) (v : List ℕ) → Clear v → run l end (more a d ∷ k) v ≡ run l end k v
  one_back a d k [] h = skip a d k
  one_back a d k (c ∷ v) h = ap (λ m. go m (λ k'. run l end k' v)) (cond-false (digit c) _ _ h)

  first : (a : Name) (k : List Part) (n : ℕ) → 1 ≤ n → n ≤ 9 → move l (num a ∷ k) (48 + n) ≡ to (more a n ∷ k)
  first a k n lo hi =
      let z : 48 + n - 48 ≡ n = omega arith in
      let q : eqb (48 + n) 48 ≡ false = ne_eqb (48 + n) 48 (λ e. omega arith) in
      let dg : digit (48 + n) ≡ true = grind (arith, nat_tests) in
      cond-false (eqb (48 + n) 48) _ _ q ∙ cond-true (digit (48 + n)) _ _ dg ∙ ap (λ i. to (more a i ∷ k)) z

  second : (a : Name) (k : List Part) (n : ℕ) → n < l a → move l (more a (n / 10) ∷ k) (48 + n % 10) ≡ to k
  second a k n h =
      let value : n / 10 * 10 + (48 + n % 10 - 48) ≡ n = omega arith in
      let dg : digit (48 + n % 10) ≡ true = grind (arith, nat_tests) in
      cond-true (digit (48 + n % 10)) _ _ dg ∙ cond-true (ltb (n / 10 * 10 + (48 + n % 10 - 48)) (l a)) _ _ (lt-ltb _ _ (subst (λ i. i < l a) (sym value) h))

  number_back : (a : Name) (n : ℕ) (k : List Part) (v : List ℕ) → n < l a → Clear v → run l end (num a ∷ k) (digits n ++ v) ≡ run l end k v
  number_back a n k v h cl = ⊎_elim one two (cases_lt n 10)
    where
      one : n < 10 → run l end (num a ∷ k) (digits n ++ v) ≡ run l end k v
      one lt =
          ap (λ d. run l end (num a ∷ k) (d ++ v)) (cond-true (ltb n 10) _ _ (lt-ltb n 10 lt))
          ∙ ⊎_elim
          (λ z. ap (λ i. run l end (num a ∷ k) ((48 + i) ∷ v)) z)
          (λ nz. ap (λ m. go m (λ k'. run l end k' v)) (first a k n (let nz' : n ≡ 0 → ⊥ = nz in omega arith) (omega arith)) ∙ one_back a n k v cl)
          (cases_eq n 0)

      two : 10 ≤ n → run l end (num a ∷ k) (digits n ++ v) ≡ run l end k v
      two ge =
          let top : n < 100 = omega (arith, lim a) in
          ap (λ d. run l end (num a ∷ k) (d ++ v)) (cond-false (ltb n 10) _ _ (le-ltb n 10 ge))
          ∙ ap (λ m. go m (λ k'. run l end k' ((48 + n % 10) ∷ v))) (first a k (n / 10) (omega arith) (omega arith))
          ∙ ap (λ m. go m (λ k'. run l end k' v)) (second a k n h)

  name_back : (a : Name) (n : ℕ) (k : List Part) (v : List ℕ) → n < l a → Clear v → run l end (name_parts a ++ k) ((digits n ++ closing a) ++ v) ≡ run l end k v
  name_back Fact n k v h cl = ap (λ s. run l end (num Fact ∷ k) (s ++ v)) (append-nil (digits n)) ∙ number_back Fact n k v h cl
  name_back Enabled n k v h cl = ap (λ s. run l end (num Enabled ∷ k) (s ++ v)) (append-nil (digits n)) ∙ number_back Enabled n k v h cl
  name_back Taken n k v h cl = ap (run l end (num Taken ∷ lit 93 ∷ k)) (append_assoc (digits n) (93 ∷ []) v) ∙ number_back Taken n (lit 93 ∷ k) (93 ∷ v) h refl

  pub run_back : (p : Phrase) (k : List Part) (v : List ℕ) → Within l p → Clear v → run l end (phrase ∷ k) (write p ++ v) ≡ run l end k v
  run_back truth k v h cl = ap (λ m. go (begin m k) (λ k'. run l end k' v)) mark_84
  run_back (named a n) k v h cl = ap (λ m. go (begin m k) (λ k'. run l end k' ((digits n ++ closing a) ++ v))) (mark_opening a) ∙ name_back a n k v h cl
  run_back (prefixed x p) k v h cl = ap (λ m. go (begin m k) (λ k'. run l end k' (write p ++ v))) (mark_letter x) ∙ run_back p k v h cl
  run_back (joined j p q) k v h cl =
      ap (λ m. go (begin m k) (λ k'. run l end k' ((write p ++ sign j ∷ write q ++ 41 ∷ []) ++ v))) mark_40
      ∙ ap (run l end (phrase ∷ op ∷ phrase ∷ lit 41 ∷ k)) (shape (sign j) (write p) (write q) v)
      ∙ run_back p (op ∷ phrase ∷ lit 41 ∷ k) (sign j ∷ (write q ++ 41 ∷ v)) h.0 (sign_clear j)
      ∙ ap (λ o. go (across o (phrase ∷ lit 41 ∷ k)) (λ k'. run l end k' (write q ++ 41 ∷ v))) (joint_sign j)
      ∙ run_back q (lit 41 ∷ k) (41 ∷ v) h.1 refl

module _ (l : Name → ℕ) (lim : Limits l) where
  -- what begins a phrase is alive
  pub begins_alive : (s : List ℕ) → Begins l s → alive l (phrase ∷ []) s ≡ true
  begins_alive s h = alive_left l (phrase ∷ []) s h.rest (subst (λ z. alive l (phrase ∷ []) z ≡ true) (append-nil (write h.phrase) ∙ h.text) (run_back l lim (λ _. true) (λ a d k. refl) h.phrase [] [] h.within tt))

  -- a phrase is accepted
  pub is_accepted : (s : List ℕ) → Is l s → accepts l (phrase ∷ []) s ≡ true
  is_accepted s h = subst (λ z. accepts l (phrase ∷ []) z ≡ true) (append-nil (write h.phrase) ∙ h.text) (run_back l lim final (λ a d k. refl) h.phrase [] [] h.within tt)
