-- Which atoms are possible, read off their bits. Assumes nothing.
use Rattle.std.proofs.Common.{◌≡◌, ℕ, zero, suc, ◌^◌, ◌<◌, Bool, true, false, cond, not, ◌&&◌, ◌||◌, eqb, ltb, ◌⊎◌, List, [], ◌∷◌, Decides, sym, refl, ap, ◌∙◌, subst, inl, inr, ⊎_elim, arith}
use Rattle.std.proofs.lemmas.Bool.{and_from, and_parts, both_ways, cases_Bool, cases_eq, cases_lt, cond_both, cond-false, cond-true, eq-eqb, eqb-true, false≢true, lt-ltb, ltb-true, ne_eqb, not_from_false, not-true, or_cases, or_from, or_left, or_right}
use Rattle.std.proofs.lemmas.Bool.Decides.{Decides-and, Decides-eqb, Decides-or}
use Rattle.formula.specs.Atoms.{Atom, bit_of}
use Rattle.formula.specs.Ltl.{Ltl, top, fact, enabled, taken, neg, or, next, until}
use Rattle.meaning.specs.Truth.{bears}
use Rattle.meaning.specs.declared.Arc.{Arc}
use Rattle.tableau.specs.Along.{Fits, Ends}
use Rattle.tableau.proofs.Bits.{bit_is, word, word_low, word_bit, no_bit}
use Rattle.seconds.specs.Claims.{Letters, Tests}
use Rattle.seconds.specs.Free.{Takes, Below, PossibleMove, PossibleEnd}
use Rattle.seconds.specs.Letters.{Kind, of_fact, of_enabled, of_taken, Says, Clear, MoveBits, SomeBits, EndBits}
use Rattle.seconds.specs.Tests.{says, says_one, says_zero, every, clear, can_take, may_move, some_below, stands, may_end}

-- arcs that bear given events
abbrev those : ℕ → (ℕ → Bool) → List Arc
those zero g = []
those (suc n) g = cond (g n) (record { event = n; target = 0 } ∷ those n g) (those n g)

those_all : (n : ℕ) (g : ℕ → Bool) (u : ℕ) → u < n → g u ≡ true → bears u (those n g) ≡ true
those_all zero g u h e = absurd (omega arith)
those_all (suc n) g u h e =
    ⊎_elim
    (λ q. subst (λ l. bears u l ≡ true) (sym (cond-true (g n) (record { event = n; target = 0 } ∷ those n g) (those n g) (ap g q ∙ e))) (or_left (eqb n u) (bears u (those n g)) (eq-eqb n u q)))
    (λ ne.
    let ih = those_all n g u (omega (arith, ne)) e in
    cond_both (g n) (record { event = n; target = 0 } ∷ those n g) (those n g) (λ l. bears u l ≡ true) (λ _. or_right (eqb n u) (bears u (those n g)) ih) (λ _. ih))
    (cases_eq n u)

those_only : (n : ℕ) (g : ℕ → Bool) (u : ℕ) → bears u (those n g) ≡ true → (u < n) × (g u ≡ true)
those_only zero g u h = absurd (false≢true h)
those_only (suc n) g u h =
    ⊎_elim
    (λ e.
    ⊎_elim
    (λ q. let z = eqb-true n u q in (omega arith, subst (λ k. g k ≡ true) z e))
    (λ q. let i = those_only n g u q in (omega (arith, i.0), i.1))
    (or_cases (eqb n u) (bears u (those n g)) (subst (λ l. bears u l ≡ true) (cond-true (g n) (record { event = n; target = 0 } ∷ those n g) (those n g) e) h)))
    (λ e. let i = those_only n g u (subst (λ l. bears u l ≡ true) (cond-false (g n) (record { event = n; target = 0 } ∷ those n g) (those n g) e) h) in (omega (arith, i.0), i.1))
    (cases_Bool (g n))

-- entries
never : {x : Bool} → x ≡ false → Decides x ⊥
never e = (λ h. false≢true (sym e ∙ h), λ b. absurd b)

module _ (q : Bool → Bool) (x : Bool) (dq : (y : Bool) → Decides (q y) (y ≡ x)) where
  says_decides : (k : Kind) (f : Ltl) (a : Atom f) (n : ℕ) → Decides (says k f a n q) (Says k f a n x)
  says_decides k top a n = never refl
  says_decides of_fact (fact p) a n = Decides-and (eqb p n) (q a) (Decides-eqb p n) (dq a)
  says_decides of_enabled (fact p) a n = never refl
  says_decides of_taken (fact p) a n = never refl
  says_decides of_fact (enabled p) a n = never refl
  says_decides of_enabled (enabled p) a n = Decides-and (eqb p n) (q a) (Decides-eqb p n) (dq a)
  says_decides of_taken (enabled p) a n = never refl
  says_decides of_fact (taken p) a n = never refl
  says_decides of_enabled (taken p) a n = never refl
  says_decides of_taken (taken p) a n = Decides-and (eqb p n) (q a) (Decides-eqb p n) (dq a)
  says_decides k (neg f) a n = says_decides k f a n
  says_decides k (or f g) a n = Decides-or (says k f a.0 n q) (says k g a.1 n q) (says_decides k f a.0 n) (says_decides k g a.1 n)
  says_decides k (next f) a n = says_decides k f a.1 n
  says_decides k (until f g) a n = Decides-or (says k f a.1 n q) (says k g a.2 n q) (says_decides k f a.1 n) (says_decides k g a.2 n)

yes_decides : (k : Kind) (f : Ltl) (a : Atom f) (n : ℕ) → Decides (says_one k f a n) (Says k f a n true)
yes_decides k f a n = says_decides (λ y. y) true (λ y. (λ h. h, λ h. h)) k f a n

no_decides : (k : Kind) (f : Ltl) (a : Atom f) (n : ℕ) → Decides (says_zero k f a n) (Says k f a n false)
no_decides k f a n = says_decides not false (λ y. (not-true y, not_from_false y)) k f a n

abbrev Every : Kind → (f : Ltl) → Atom f → (ℕ → Bool) → Type 0
Every k f a q = (n : ℕ) → Says k f a n true → q n ≡ true

module _ (q : ℕ → Bool) where
  leaf : (a : Bool) (p : ℕ) → Decides (not a || q p) ((n : ℕ) → (p ≡ n) × (a ≡ true) → q n ≡ true)
  leaf a p = (
    λ h n s. ⊎_elim (λ e. absurd (both_ways a (not-true a e) s.1)) (λ e. subst (λ k. q k ≡ true) s.0 e) (or_cases (not a) (q p) h),
    λ h. ⊎_elim (λ e. or_right (not a) (q p) (h p (refl, e))) (λ e. or_left (not a) (q p) (not_from_false a e)) (cases_Bool a),
  )

  none : Decides true ((n : ℕ) → ⊥ → q n ≡ true)
  none = (λ _ n b. absurd b, λ _. refl)

  pair : (k : Kind) (f g : Ltl) (a : Atom f) (b : Atom g) → Decides (every k f a q) (Every k f a q) → Decides (every k g b q) (Every k g b q) → Decides (every k f a q && every k g b q) ((n : ℕ) → Says k f a n true ⊎ Says k g b n true → q n ≡ true)
  pair k f g a b df dg = (
    λ h n s. let p = and_parts (every k f a q) (every k g b q) h in ⊎_elim (λ e. df.0 p.0 n e) (λ e. dg.0 p.1 n e) s,
    λ h. and_from (every k f a q) (every k g b q) (df.1 (λ n s. h n (inl s))) (dg.1 (λ n s. h n (inr s))),
  )

  every_decides : (k : Kind) (f : Ltl) (a : Atom f) → Decides (every k f a q) (Every k f a q)
  every_decides k top a = none
  every_decides of_fact (fact p) a = leaf a p
  every_decides of_enabled (fact p) a = none
  every_decides of_taken (fact p) a = none
  every_decides of_fact (enabled p) a = none
  every_decides of_enabled (enabled p) a = leaf a p
  every_decides of_taken (enabled p) a = none
  every_decides of_fact (taken p) a = none
  every_decides of_enabled (taken p) a = none
  every_decides of_taken (taken p) a = leaf a p
  every_decides k (neg f) a = every_decides k f a
  every_decides k (or f g) a = pair k f g a.0 a.1 (every_decides k f a.0) (every_decides k g a.1)
  every_decides k (next f) a = every_decides k f a.1
  every_decides k (until f g) a = pair k f g a.1 a.2 (every_decides k f a.1) (every_decides k g a.2)

-- what fits, entry by entry
module _ (w : ℕ) (xs : List Arc) where
  abbrev FactsFit : (f : Ltl) → Atom f → Type 0
  FactsFit f a = (n : ℕ) (x : Bool) → Says of_fact f a n x → x ≡ bit_of w n

  abbrev EventsFit : (f : Ltl) → Atom f → Type 0
  EventsFit f a = (n : ℕ) (x : Bool) → Says of_enabled f a n x → x ≡ bears n xs

  facts_fit : (f : Ltl) (a : Atom f) → Fits w xs f a → FactsFit f a
  facts_fit top a h n x s = absurd s
  facts_fit (fact p) a h n x s = sym s.1 ∙ (h ∙ ap (bit_of w) s.0)
  facts_fit (enabled p) a h n x s = absurd s
  facts_fit (taken p) a h n x s = absurd s
  facts_fit (neg f) a h n x s = facts_fit f a h n x s
  facts_fit (or f g) a h n x s = ⊎_elim (λ s. facts_fit f a.0 h.0 n x s) (λ s. facts_fit g a.1 h.1 n x s) s
  facts_fit (next f) a h n x s = facts_fit f a.1 h n x s
  facts_fit (until f g) a h n x s = ⊎_elim (λ s. facts_fit f a.1 h.0 n x s) (λ s. facts_fit g a.2 h.1 n x s) s

  events_fit : (f : Ltl) (a : Atom f) → Fits w xs f a → EventsFit f a
  events_fit top a h n x s = absurd s
  events_fit (fact p) a h n x s = absurd s
  events_fit (enabled p) a h n x s = sym s.1 ∙ (h ∙ ap (λ k. bears k xs) s.0)
  events_fit (taken p) a h n x s = absurd s
  events_fit (neg f) a h n x s = events_fit f a h n x s
  events_fit (or f g) a h n x s = ⊎_elim (λ s. events_fit f a.0 h.0 n x s) (λ s. events_fit g a.1 h.1 n x s) s
  events_fit (next f) a h n x s = events_fit f a.1 h n x s
  events_fit (until f g) a h n x s = ⊎_elim (λ s. events_fit f a.1 h.0 n x s) (λ s. events_fit g a.2 h.1 n x s) s

  all_fit : (f : Ltl) (a : Atom f) → FactsFit f a → EventsFit f a → Fits w xs f a
  all_fit top a p e = tt
  all_fit (fact n) a p e = p n a (refl, refl)
  all_fit (enabled n) a p e = e n a (refl, refl)
  all_fit (taken n) a p e = tt
  all_fit (neg f) a p e = all_fit f a p e
  all_fit (or f g) a p e =
      (all_fit f a.0 (λ n x s. p n x (inl s)) (λ n x s. e n x (inl s)), all_fit g a.1 (λ n x s. p n x (inr s)) (λ n x s. e n x (inr s)))
  all_fit (next f) a p e = all_fit f a.1 p e
  all_fit (until f g) a p e =
      (all_fit f a.1 (λ n x s. p n x (inl s)) (λ n x s. e n x (inl s)), all_fit g a.2 (λ n x s. p n x (inr s)) (λ n x s. e n x (inr s)))

module _ (t : ℕ) where
  abbrev TakenFit : (f : Ltl) → Atom f → Type 0
  TakenFit f a = (n : ℕ) (x : Bool) → Says of_taken f a n x → x ≡ eqb t n

  taken_fit : (f : Ltl) (a : Atom f) → Takes f t a → TakenFit f a
  taken_fit top a h n x s = absurd s
  taken_fit (fact p) a h n x s = absurd s
  taken_fit (enabled p) a h n x s = absurd s
  taken_fit (taken p) a h n x s = sym s.1 ∙ (h ∙ ap (eqb t) s.0)
  taken_fit (neg f) a h n x s = taken_fit f a h n x s
  taken_fit (or f g) a h n x s = ⊎_elim (λ s. taken_fit f a.0 h.0 n x s) (λ s. taken_fit g a.1 h.1 n x s) s
  taken_fit (next f) a h n x s = taken_fit f a.1 h n x s
  taken_fit (until f g) a h n x s = ⊎_elim (λ s. taken_fit f a.1 h.0 n x s) (λ s. taken_fit g a.2 h.1 n x s) s

  all_taken : (f : Ltl) (a : Atom f) → TakenFit f a → Takes f t a
  all_taken top a p = tt
  all_taken (fact n) a p = tt
  all_taken (enabled n) a p = tt
  all_taken (taken n) a p = p n a (refl, refl)
  all_taken (neg f) a p = all_taken f a p
  all_taken (or f g) a p = (all_taken f a.0 (λ n x s. p n x (inl s)), all_taken g a.1 (λ n x s. p n x (inr s)))
  all_taken (next f) a p = all_taken f a.1 p
  all_taken (until f g) a p = (all_taken f a.1 (λ n x s. p n x (inl s)), all_taken g a.2 (λ n x s. p n x (inr s)))

clear_facts : (f : Ltl) (a : Atom f) (w : ℕ) (xs : List Arc) → w < 2 ^ 32 → Fits w xs f a → Clear of_fact 32 f a
clear_facts f a w xs small fit n s =
    let e = facts_fit w xs f a fit n true s in (
      ⊎_elim (λ h. h) (λ h. absurd (false≢true (sym (e ∙ no_bit w n small h)))) (cases_lt n 32),
      λ s'. false≢true (facts_fit w xs f a fit n false s' ∙ sym e),
    )

-- the word with the facts that a says
abbrev facts_of : (f : Ltl) → Atom f → ℕ
facts_of f a = word 32 (says_one of_fact f a)

not_said : (k : Kind) (limit : ℕ) (f : Ltl) (a : Atom f) → Clear k limit f a → (n : ℕ) → Says k f a n false → says_one k f a n ≡ false
not_said k limit f a ok n s =
    ⊎_elim (λ e. absurd ((ok n ((yes_decides k f a n).0 e)).1 s)) (λ e. e) (cases_Bool (says_one k f a n))

facts_of_fit : (f : Ltl) (a : Atom f) (xs : List Arc) → Clear of_fact 32 f a → FactsFit (facts_of f a) xs f a
facts_of_fit f a xs ok n true s =
    sym (ap (λ k. eqb k 1) (word_bit 32 n (says_one of_fact f a) (ok n s).0) ∙ (bit_is (says_one of_fact f a n) ∙ (yes_decides of_fact f a n).1 s))
facts_of_fit f a xs ok n false s =
    ⊎_elim
    (λ h. sym (ap (λ k. eqb k 1) (word_bit 32 n (says_one of_fact f a) h) ∙ (bit_is (says_one of_fact f a n) ∙ not_said of_fact 32 f a ok n s)))
    (λ h. sym (no_bit (facts_of f a) n (word_low 32 (says_one of_fact f a)) h))
    (cases_lt n 32)

move_to : (E : ℕ) (f : Ltl) (t : ℕ) (a : Atom f) → PossibleMove E f t a → MoveBits E f t a
move_to E f t a (w, xs, small, below, has, fit, takes) = record {
  facts = clear_facts f a w xs small fit;
  enabled = λ n s.
      let e = events_fit w xs f a fit n true s in
      (below n (sym e), λ s'. false≢true (events_fit w xs f a fit n false s' ∙ sym e));
  event = below t has;
  able = λ s. false≢true (events_fit w xs f a fit t false s ∙ has);
  only = λ u s. eqb-true t u (sym (taken_fit t f a takes u true s));
  goes = λ s. false≢true (taken_fit t f a takes t false s ∙ eq-eqb t t refl);
}

module _ (E : ℕ) (f : Ltl) (t : ℕ) (a : Atom f) (m : MoveBits E f t a) where
  abbrev arcs : List Arc
  arcs = record { event = t; target = 0 } ∷ those E (says_one of_enabled f a)

  arcs_below : Below E arcs
  arcs_below u h =
      ⊎_elim
      (λ e. subst (λ k. k < E) (eqb-true t u e) m.event)
      (λ e. (those_only E (says_one of_enabled f a) u e).0)
      (or_cases (eqb t u) (bears u (those E (says_one of_enabled f a))) h)

  arcs_fit : EventsFit (facts_of f a) arcs f a
  arcs_fit n true s =
      sym (or_right (eqb t n) (bears n (those E (says_one of_enabled f a))) (those_all E (says_one of_enabled f a) n (m.enabled n s).0 ((yes_decides of_enabled f a n).1 s)))
  arcs_fit n false s =
      sym (or_from (eqb t n) (bears n (those E (says_one of_enabled f a)))
      (ne_eqb t n (λ e. m.able (subst (λ k. Says of_enabled f a k false) (sym e) s)))
      (⊎_elim
      (λ h. absurd (both_ways (says_one of_enabled f a n) (not_said of_enabled E f a m.enabled n s) (those_only E (says_one of_enabled f a) n h).1))
      (λ h. h)
      (cases_Bool (bears n (those E (says_one of_enabled f a))))))

  takes_fit : TakenFit t f a
  takes_fit n true s = sym (eq-eqb t n (m.only n s))
  takes_fit n false s = sym (ne_eqb t n (λ e. m.goes (subst (λ k. Says of_taken f a k false) (sym e) s)))

  move_made : PossibleMove E f t a
  move_made = (
    facts_of f a,
    arcs,
    word_low 32 (says_one of_fact f a),
    arcs_below,
    or_left (eqb t t) (bears t (those E (says_one of_enabled f a))) (eq-eqb t t refl),
    all_fit (facts_of f a) arcs f a (facts_of_fit f a arcs m.facts) arcs_fit,
    all_taken t f a takes_fit,
  )

some_to : (E : ℕ) (f : Ltl) (a : Atom f) → (t : ℕ) × PossibleMove E f t a → SomeBits E f a
some_to E f a (t, p) =
    let m = move_to E f t a p in
    record {
      facts = m.facts;
      enabled = m.enabled;
      taken = λ n s. (subst (λ k. k < E) (m.only n s) m.event, λ s'. m.goes (subst (λ k. Says of_taken f a k false) (sym (m.only n s)) s'));
      one = λ u u' s s'. sym (m.only u s) ∙ m.only u' s';
      able = λ u s s'. m.able (subst (λ k. Says of_enabled f a k false) (sym (m.only u s)) s');
      spare = λ _. (t, m.event, m.goes, m.able);
    }

abbrev Found : Kind → (f : Ltl) → Atom f → Type 0
Found k f a = ((u : ℕ) × Says k f a u true) ⊎ ((u : ℕ) → Says k f a u true → ⊥)

find_leaf : (p : ℕ) (a : Bool) → ((u : ℕ) × ((p ≡ u) × (a ≡ true))) ⊎ ((u : ℕ) → (p ≡ u) × (a ≡ true) → ⊥)
find_leaf p a = ⊎_elim (λ e. inl (p, (refl, e))) (λ e. inr (λ u s. both_ways a e s.1)) (cases_Bool a)

find_pair : (k : Kind) (f g : Ltl) (a : Atom f) (b : Atom g) → Found k f a → Found k g b → ((u : ℕ) × (Says k f a u true ⊎ Says k g b u true)) ⊎ ((u : ℕ) → Says k f a u true ⊎ Says k g b u true → ⊥)
find_pair k f g a b (inl p) y = inl (p.0, inl p.1)
find_pair k f g a b (inr p) (inl q) = inl (q.0, inr q.1)
find_pair k f g a b (inr p) (inr q) = inr (λ u s. ⊎_elim (p u) (q u) s)

find_taken : (f : Ltl) (a : Atom f) → Found of_taken f a
find_taken top a = inr (λ u s. s)
find_taken (fact p) a = inr (λ u s. s)
find_taken (enabled p) a = inr (λ u s. s)
find_taken (taken p) a = find_leaf p a
find_taken (neg f) a = find_taken f a
find_taken (or f g) a = find_pair of_taken f g a.0 a.1 (find_taken f a.0) (find_taken g a.1)
find_taken (next f) a = find_taken f a.1
find_taken (until f g) a = find_pair of_taken f g a.1 a.2 (find_taken f a.1) (find_taken g a.2)

some_from : (E : ℕ) (f : Ltl) (a : Atom f) → SomeBits E f a → (t : ℕ) × PossibleMove E f t a
some_from E f a m =
    ⊎_elim
    (λ p. (
      p.0,
      move_made E f p.0 a record {
        facts = m.facts;
        enabled = m.enabled;
        event = (m.taken p.0 p.1).0;
        able = m.able p.0 p.1;
        only = λ u s. m.one p.0 u p.1 s;
        goes = (m.taken p.0 p.1).1;
      },
    ))
    (λ off.
    let z = m.spare off in (
      z.0,
      move_made E f z.0 a record {
        facts = m.facts;
        enabled = m.enabled;
        event = z.1;
        able = z.3;
        only = λ u s. absurd (off u s);
        goes = z.2;
      },
    ))
    (find_taken f a)

end_to : (f : Ltl) (a : Atom f) → PossibleEnd f a → EndBits f a
end_to f a (w, small, fit, over) = record {
  facts = clear_facts f a w [] small fit;
  enabled = λ u s. false≢true (sym (events_fit w [] f a fit u true s));
  ends = over;
}

end_from : (f : Ltl) (a : Atom f) → EndBits f a → PossibleEnd f a
end_from f a m =
    (facts_of f a, word_low 32 (says_one of_fact f a), all_fit (facts_of f a) [] f a (facts_of_fit f a [] m.facts) events, m.ends)
  where
    events : EventsFit (facts_of f a) [] f a
    events n true s = absurd (m.enabled n s)
    events n false s = refl

pub letters : Letters
letters = record {
  move = λ E f t a. (move_to E f t a, move_made E f t a);
  some = λ E f a. (some_to E f a, some_from E f a);
  stop = λ f a. (end_to f a, end_from f a);
}

-- and by tests
not_decides : {A : Type 0} (x : Bool) → Decides x A → Decides (not x) (A → ⊥)
not_decides x d = (
  λ h p. both_ways x (not-true x h) (d.1 p),
  λ h. ⊎_elim (λ e. absurd (h (d.0 e))) (λ e. not_from_false x e) (cases_Bool x),
)

clear_decides : (k : Kind) (limit : ℕ) (f : Ltl) (a : Atom f) → Decides (clear k limit f a) (Clear k limit f a)
clear_decides k limit f a =
    let each = λ (n : ℕ). Decides-and (ltb n limit) (not (says_zero k f a n)) (ltb-true n limit, lt-ltb n limit) (not_decides (says_zero k f a n) (no_decides k f a n)) in
    let all = every_decides (λ n. ltb n limit && not (says_zero k f a n)) k f a in
    (λ h n s. (each n).0 (all.0 h n s), λ h. all.1 (λ n s. (each n).1 (h n s)))

move_decides : (E : ℕ) (f : Ltl) (t : ℕ) (a : Atom f) → Decides (may_move E f t a) (PossibleMove E f t a)
move_decides E f t a =
    let taking =
    Decides-and (not (says_zero of_enabled f a t)) (every of_taken f a (eqb t) && not (says_zero of_taken f a t))
    (not_decides (says_zero of_enabled f a t) (no_decides of_enabled f a t))
    (Decides-and (every of_taken f a (eqb t)) (not (says_zero of_taken f a t)) (every_decides (eqb t) of_taken f a) (not_decides (says_zero of_taken f a t) (no_decides of_taken f a t))) in
    let all =
    Decides-and (clear of_fact 32 f a) (clear of_enabled E f a && (ltb t E && can_take f t a)) (clear_decides of_fact 32 f a)
    (Decides-and (clear of_enabled E f a) (ltb t E && can_take f t a) (clear_decides of_enabled E f a)
    (Decides-and (ltb t E) (can_take f t a) (ltb-true t E, lt-ltb t E) taking)) in (
      λ h.
          let p = all.0 h in
          move_made E f t a record {
            facts = p.0;
            enabled = p.1.0;
            event = p.1.1.0;
            able = p.1.1.1.0;
            only = λ u s. eqb-true t u (p.1.1.1.1.0 u s);
            goes = p.1.1.1.1.1;
          },
      λ p.
          let m = move_to E f t a p in
          all.1 (m.facts, (m.enabled, (m.event, (m.able, ((λ u s. eq-eqb t u (m.only u s)), m.goes))))),
    )

below_decides : (n : ℕ) (q : ℕ → Bool) → Decides (some_below n q) ((t : ℕ) × (t < n) × (q t ≡ true))
below_decides zero q = (λ h. absurd (false≢true h), λ h. absurd (omega (arith, h.1)))
below_decides (suc n) q =
    let ih = below_decides n q in (
      λ h. ⊎_elim (λ e. (n, omega arith, e)) (λ e. let p = ih.0 e in (p.0, omega (arith, p.1), p.2)) (or_cases (q n) (some_below n q) h),
      λ h. ⊎_elim (λ e. or_left (q n) (some_below n q) (subst (λ k. q k ≡ true) e h.2)) (λ ne. or_right (q n) (some_below n q) (ih.1 (h.0, omega (arith, h.1, ne), h.2))) (cases_eq h.0 n),
    )

stands_decides : (f : Ltl) (a : Atom f) → Decides (stands f a) (Ends f a)
stands_decides top a = (λ _. tt, λ _. refl)
stands_decides (fact p) a = (λ _. tt, λ _. refl)
stands_decides (enabled p) a = (λ _. tt, λ _. refl)
stands_decides (taken p) a = (not-true a, not_from_false a)
stands_decides (neg f) a = stands_decides f a
stands_decides (or f g) a = Decides-and (stands f a.0) (stands g a.1) (stands_decides f a.0) (stands_decides g a.1)
stands_decides (next f) a = Decides-and (not a.0) (stands f a.1) (not-true a.0, not_from_false a.0) (stands_decides f a.1)
stands_decides (until f g) a =
    let d =
    Decides-and (not a.0) (stands f a.1 && stands g a.2) (not-true a.0, not_from_false a.0)
    (Decides-and (stands f a.1) (stands g a.2) (stands_decides f a.1) (stands_decides g a.2)) in
    (λ h. let p = d.0 h in (p.0, p.1.0, p.1.1), λ p. d.1 (p.0, (p.1, p.2)))

end_decides : (f : Ltl) (a : Atom f) → Decides (may_end f a) (PossibleEnd f a)
end_decides f a =
    let all =
    Decides-and (clear of_fact 32 f a) (every of_enabled f a (λ _. false) && stands f a) (clear_decides of_fact 32 f a)
    (Decides-and (every of_enabled f a (λ _. false)) (stands f a) (every_decides (λ _. false) of_enabled f a) (stands_decides f a)) in (
      λ h. let p = all.0 h in end_from f a record { facts = p.0; enabled = λ u s. false≢true (p.1.0 u s); ends = p.1.1 },
      λ p. let m = end_to f a p in all.1 (m.facts, ((λ u s. absurd (m.enabled u s)), m.ends)),
    )

pub tests : Tests
tests = record {
  move = move_decides;
  some = λ E f a.
      let d = below_decides E (λ t. may_move E f t a) in (
        λ h. let p = d.0 h in (p.0, (move_decides E f p.0 a).0 p.2),
        λ p. d.1 (p.0, (move_to E f p.0 a p.1).event, (move_decides E f p.0 a).1 p.1),
      );
  stop = end_decides;
}
