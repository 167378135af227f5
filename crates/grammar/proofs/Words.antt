-- What has a move at each byte begins a phrase. Assumes nothing.
use Rattle.std.proofs.Common.{◌≡◌, ℕ, ◌+◌, ◌-◌, ◌*◌, ◌<◌, ◌≤◌, true, cond, eqb, ltb, ◌⊎◌, List, [], ◌∷◌, ◌++◌, sym, refl, ap, ◌∙◌, subst, inl, inr, ⊎_elim, append_assoc, append-nil, arith}
use Rattle.std.proofs.lemmas.Bool.{cond_both, ltb-true, eqb-true, eqb-false}
use Rattle.grammar.specs.Phrases.{Phrase, truth, named, prefixed, joined, digits, opening, letter, sign, write, Within, Begins}
use Rattle.grammar.specs.Machine.{Part, phrase, op, num, more, lit, Move, stop, to, mark_of, digit, name_parts, begin, across, move}
use Rattle.grammar.specs.declared.Name.{Name}
use Rattle.grammar.specs.declared.Name.TheVariants.{Fact, Enabled, Taken}
use Rattle.grammar.specs.declared.Joint.{Joint}
use Rattle.grammar.specs.declared.Joint.TheVariants.{Or}
use Rattle.grammar.proofs.Digits.{one_digit, two_digits}
use Rattle.grammar.proofs.Marks.{by_mark, by_joint, digit_bounds, shape}
use Rattle.grammar.proofs.Alive.{alive, Limits, go_stop}

-- the texts of a part
abbrev Word : (Name → ℕ) → Part → List ℕ → Type 0
Word l phrase s = (p : Phrase) × Within l p × (s ≡ write p)
Word l op s = (j : Joint) × (s ≡ sign j ∷ [])
Word l (num a) s = (n : ℕ) × (n < l a) × (s ≡ digits n)
Word l (more a d) s = (s ≡ []) ⊎ ((c : ℕ) × (digit c ≡ true) × (d * 10 + (c - 48) < l a) × (s ≡ c ∷ []))
Word l (lit q) s = s ≡ q ∷ []

-- and of parts
abbrev Words : (Name → ℕ) → List Part → List ℕ → Type 0
Words l [] s = s ≡ []
Words l (y ∷ k) s = (w : List ℕ) × (v : List ℕ) × Word l y w × Words l k v × (s ≡ w ++ v)

abbrev After : (Name → ℕ) → Move → List ℕ → Type 0
After l stop s = ⊥
After l (to k) s = Words l k s

module _ (l : Name → ℕ) (lim : Limits l) where
  -- some text of each list of parts
  some : (k : List Part) → (s : List ℕ) × Words l k s
  some [] = ([], refl)
  some (phrase ∷ k) = let r = some k in (84 ∷ r.0, (84 ∷ [], r.0, (truth, tt, refl), r.1, refl))
  some (op ∷ k) = let r = some k in (124 ∷ r.0, (124 ∷ [], r.0, (Or, refl), r.1, refl))
  some (num a ∷ k) = let r = some k in (48 ∷ r.0, (48 ∷ [], r.0, (0, omega (arith, lim a), refl), r.1, refl))
  some (more a d ∷ k) = let r = some k in (r.0, ([], r.0, inl refl, r.1, refl))
  some (lit q ∷ k) = let r = some k in (q ∷ r.0, (q ∷ [], r.0, refl, r.1, refl))

  -- the number of a name, what closes it, and the rest
  names : (a : Name) (k : List Part) (s : List ℕ) → Words l (name_parts a ++ k) s → Words l (phrase ∷ k) (opening a ∷ s)
  names Fact k s h = let w = h.2 in (112 ∷ h.0, h.1, (named Fact w.0, w.1, ap (λ z. 112 ∷ z) (w.2 ∙ sym (append-nil (digits w.0)))), h.3, ap (λ z. 112 ∷ z) h.4)
  names Enabled k s h = let w = h.2 in (101 ∷ h.0, h.1, (named Enabled w.0, w.1, ap (λ z. 101 ∷ z) (w.2 ∙ sym (append-nil (digits w.0)))), h.3, ap (λ z. 101 ∷ z) h.4)
  names Taken k s h =
      let w = h.2 in
      let k2 = h.3 in
      let eq : s ≡ (digits w.0 ++ 93 ∷ []) ++ k2.1 = h.4 ∙ ap (λ z. z ++ h.1) w.2 ∙ ap (λ z. digits w.0 ++ z) (k2.4 ∙ ap (λ z. z ++ k2.1) k2.2) ∙ sym (append_assoc (digits w.0) (93 ∷ []) k2.1) in
      (91 ∷ digits w.0 ++ 93 ∷ [], k2.1, (named Taken w.0, w.1, refl), k2.3, ap (λ z. 91 ∷ z) eq)

  pairs : (k : List Part) (s : List ℕ) → Words l (phrase ∷ op ∷ phrase ∷ lit 41 ∷ k) s → Words l (phrase ∷ k) (40 ∷ s)
  pairs k s h =
      let a = h.2 in
      let k2 = h.3 in
      let j = k2.2 in
      let k3 = k2.3 in
      let c = k3.2 in
      let k4 = k3.3 in
      let inner : k2.1 ≡ write c.0 ++ 41 ∷ k4.1 = k3.4 ∙ ap (λ z. z ++ k3.1) c.2 ∙ ap (λ z. write c.0 ++ z) (k4.4 ∙ ap (λ z. z ++ k4.1) k4.2) in
      let outer : s ≡ write a.0 ++ sign j.0 ∷ (write c.0 ++ 41 ∷ k4.1) = h.4 ∙ ap (λ z. z ++ h.1) a.2 ∙ ap (λ z. write a.0 ++ z) (k2.4 ∙ ap (λ z. z ++ k2.1) j.1 ∙ ap (λ z. sign j.0 ∷ z) inner) in
      let both = joined j.0 a.0 c.0 in
      (write both, k4.1, (both, (a.1, c.1), refl), k4.3, ap (λ z. 40 ∷ z) (outer ∙ sym (shape (sign j.0) (write a.0) (write c.0) k4.1)))

  letters : (k : List Part) (s : List ℕ) (c : ℕ) → After l (begin (mark_of c) k) s → Words l (phrase ∷ k) (c ∷ s)
  letters k s c =
      by_mark (λ c m. After l (begin m k) s → Words l (phrase ∷ k) (c ∷ s))
      (λ h. (84 ∷ [], s, (truth, tt, refl), h, refl))
      (λ a. names a k s)
      (λ x h. let w = h.2 in (letter x ∷ h.0, h.1, (prefixed x w.0, w.1, ap (λ z. letter x ∷ z) w.2), h.3, ap (λ z. letter x ∷ z) h.4))
      (pairs k s)
      c
      (λ h. absurd h)

  -- a move, and then what follows
  back : (k : List Part) (c : ℕ) (s : List ℕ) → After l (move l k c) s → Words l k (c ∷ s)
  back [] c s = λ h. absurd h
  back (phrase ∷ k) c s = letters k s c
  back (op ∷ k) c s =
      by_joint (λ c o. After l (across o k) s → Words l (op ∷ k) (c ∷ s))
      (λ j h. (sign j ∷ [], s, (j, refl), h, refl))
      c
      (λ h. absurd h)
  back (num a ∷ k) c s =
      cond_both (eqb c 48) (to k) (cond (digit c) (to (more a (c - 48) ∷ k)) stop) (λ m. After l m s → Words l (num a ∷ k) (c ∷ s))
      (λ eq h. (48 ∷ [], s, (0, omega (arith, lim a), refl), h, ap (λ z. z ∷ s) (eqb-true c 48 eq)))
      (λ ne. let ne' = eqb-false c 48 ne in
      cond_both (digit c) (to (more a (c - 48) ∷ k)) stop (λ m. After l m s → Words l (num a ∷ k) (c ∷ s))
      (λ dg h.
      let bd = digit_bounds c dg in
      let lo : 49 ≤ c = omega arith in
      ⊎_elim
      (λ eu. (c ∷ [], h.1, (c - 48, omega (arith, lim a), sym (one_digit c bd.0 bd.1)), h.3, ap (λ z. c ∷ z) (h.4 ∙ ap (λ z. z ++ h.1) eu)))
      (λ r. let bd' = digit_bounds r.0 r.1 in (c ∷ r.0 ∷ [], h.1, ((c - 48) * 10 + (r.0 - 48), r.2, sym (two_digits c r.0 lo bd.1 bd'.0 bd'.1)), h.3, ap (λ z. c ∷ z) (h.4 ∙ ap (λ z. z ++ h.1) r.3)))
      h.2)
      (λ _ h. absurd h))
  back (more a d ∷ k) c s =
      cond_both (digit c) (cond (ltb (d * 10 + (c - 48)) (l a)) (to k) stop) (move l k c) (λ m. After l m s → Words l (more a d ∷ k) (c ∷ s))
      (λ dg. cond_both (ltb (d * 10 + (c - 48)) (l a)) (to k) stop (λ m. After l m s → Words l (more a d ∷ k) (c ∷ s))
      (λ lt h. (c ∷ [], s, inr (c, dg, ltb-true _ _ lt, refl), h, refl))
      (λ _ h. absurd h))
      (λ _ h. ([], c ∷ s, inl refl, back k c s h, refl))
  back (lit q ∷ k) c s =
      cond_both (eqb c q) (to k) stop (λ m. After l m s → Words l (lit q ∷ k) (c ∷ s))
      (λ eq h. (q ∷ [], s, refl, h, ap (λ z. z ∷ s) (eqb-true c q eq)))
      (λ _ h. absurd h)

  alive_words : (k : List Part) (s : List ℕ) → alive l k s ≡ true → (r : List ℕ) × Words l k (s ++ r)
  alive_words k [] h = some k
  alive_words k (c ∷ s) h =
      let z = go_stop (move l k c) _ h in
      let r = alive_words z.0 s z.2 in
      (r.0, back k c (s ++ r.0) (subst (λ m. After l m (s ++ r.0)) (sym z.1) r.1))

  pub alive_begins : (s : List ℕ) → alive l (phrase ∷ []) s ≡ true → Begins l s
  alive_begins s h =
      let r = alive_words (phrase ∷ []) s h in
      let q = r.1 in
      record {
        phrase = q.2.0;
        within = q.2.1;
        rest = r.0;
        text = sym (q.4 ∙ ap (λ z. z ++ q.1) q.2.2 ∙ ap (λ z. write q.2.0 ++ z) q.3 ∙ append-nil (write q.2.0));
      }
