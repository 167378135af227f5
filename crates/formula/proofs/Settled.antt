-- Words have one answer: one refusal or one table. Assumes nothing.
use Rattle.std.proofs.Common.{◌≡◌, ℕ, ◌+◌, ◌<◌, ◌≤◌, true, cond, eqb, ◌⊎◌, List, [], ◌∷◌, ◌++◌, length, get_or, take, drop, sym, refl, ap, ◌∙◌, subst, inl, inr, ⊎_elim, arith, take-append-drop, take_all, take-take, ext_get_or}
use Rattle.std.proofs.lemmas.List.{take_more}
use Rattle.std.proofs.lemmas.Bool.{cases_lt}
use Rattle.refusal.specs.Causes.{Gives}
use Rattle.refusal.specs.declared.Layer.TheVariants.{Formula}
use Rattle.refusal.specs.declared.Refusal.{Refusal}
use Rattle.refusal.proofs.Same.{same}
use Rattle.formula.specs.Ltl.{Ltl}
use Rattle.formula.specs.Stack.{sound, depth, stack, tree}
use Rattle.formula.specs.Table.{table, tables, arity, weight}
use Rattle.formula.specs.Words.{kind_of, argument_of, Spells, Counted, Lists, Unspelled, Lacks, Several, Granted, Refused, by_length, by_entry, by_parts, by_number, by_weight, OneTree}
use Rattle.formula.specs.declared.entry.Entry.{Entry}
use Rattle.formula.specs.declared.entry.Entry.TheVariants.{True, Fact, Enabled, Taken, Not, Or, Next, Until}
use Rattle.formula.proofs.Stacks.{Stands, then, stands, sound_left, sound_last, tables_back, tree_back}

pub one_tree : OneTree
one_tree f g eq = sym (tree_back f) ∙ ap tree eq ∙ tree_back g

-- the entry by its two words
abbrev entry_of : ℕ → ℕ → Entry
entry_of k a =
    cond (eqb k 1) True
    (cond (eqb k 2) (Fact a)
    (cond (eqb k 3) (Enabled a)
    (cond (eqb k 4) (Taken a)
    (cond (eqb k 5) Not
    (cond (eqb k 6) Or
    (cond (eqb k 7) Next Until))))))

entry_back : (e : Entry) → entry_of (kind_of e) (argument_of e) ≡ e
entry_back True = refl
entry_back (Fact p) = refl
entry_back (Enabled t) = refl
entry_back (Taken t) = refl
entry_back Not = refl
entry_back Or = refl
entry_back Next = refl
entry_back Until = refl

one_entry : {k a : ℕ} {d e : Entry} → Spells k a d → Spells k a e → d ≡ e
one_entry {k} {a} {d} {e} p q =
    sym (entry_back d)
    ∙ (λ i. entry_of ((sym p.by_kind ∙ q.by_kind) i) ((sym p.by_argument ∙ q.by_argument) i))
    ∙ entry_back e

one_list : {ws : List ℕ} {es fs : List Entry} → Lists ws es → Lists ws fs → es ≡ fs
one_list {ws} {es} {fs} p q = ext_get_or True es fs (p.long ∙ sym q.long) (λ i lt. one_entry (p.each i (omega (arith, p.long))) (q.each i (omega (arith, p.long))))

-- formulas side by side lack no part
tables_stand : (fs : List Ltl) → Stands 0 (tables fs) (length fs)
tables_stand [] = record { whole = refl; high = refl }
tables_stand (f ∷ fs) =
    let n : length fs + 1 ≡ length (f ∷ fs) = omega arith in
    subst (Stands 0 (tables (f ∷ fs))) n (then 0 (length fs) (length fs + 1) (tables fs) (table f) (tables_stand fs) (stands f (length fs)))

-- an entry within entries that lack no part lacks none
within_sound : (es : List Entry) (n i : ℕ) → sound 0 (take n es) ≡ true → i < n → i < length es → arity (get_or es i True) ≤ depth 0 (take i es)
within_sound es n i s lt inside =
    let split : take (i + 1) es ++ drop (i + 1) (take n es) ≡ take n es =
    ap (λ l. l ++ drop (i + 1) (take n es)) (sym (take-take (i + 1) n es (omega arith))) ∙ take-append-drop (i + 1) (take n es) in
    sound_last (take i es) (get_or es i True) 0
    (subst (λ l. sound 0 l ≡ true) (take_more es i True inside)
    (sound_left (take (i + 1) es) (drop (i + 1) (take n es)) 0 (subst (λ l. sound 0 l ≡ true) (sym split) s)))

-- where the entries are not one formula
abbrev pub Unshaped : List Entry → ℕ → Type 0
Unshaped es i = Lacks es i ⊎ ((i ≡ length es) × Several es)

module _ {es : List Entry} where
  -- up to an entry that lacks a part the entries lack none
  lacks_sound : {i : ℕ} → Lacks es i → sound 0 (take i es) ≡ true
  lacks_sound l = subst (λ xs. sound 0 xs ≡ true) l.side_by_side (tables_stand l.before).whole

  lacks_depth : {i : ℕ} → Lacks es i → depth 0 (take i es) < arity (get_or es i True)
  lacks_depth l = omega (arith, l.fewer, ap (depth 0) l.side_by_side, (tables_stand l.before).high)

  -- so it is the lowest one
  first_lack : {i : ℕ} (n : ℕ) → Lacks es i → sound 0 (take n es) ≡ true → n ≤ i
  first_lack {i} n l s = ⊎_elim (λ lt. absurd (omega (arith, lacks_depth l, within_sound es n i s lt l.within))) (λ ge. ge) (cases_lt i n)

  lacks_not_tables : {i : ℕ} (fs : List Ltl) → Lacks es i → tables fs ≡ es → ⊥
  lacks_not_tables fs l eq =
      let all : take (length es) es ≡ es = take_all (length es) es (omega arith) in
      let s = subst (λ xs. sound 0 xs ≡ true) (eq ∙ sym all) (tables_stand fs).whole in
      omega (arith, first_lack (length es) l s, l.within)

  pub one_shape : {i j : ℕ} → Unshaped es i → Unshaped es j → i ≡ j
  one_shape {i} {j} a b =
      ⊎_elim
      (λ l. ⊎_elim (λ k. let p = first_lack i k (lacks_sound l) in let q = first_lack j l (lacks_sound k) in omega arith) (λ k. absurd (lacks_not_tables k.1.all l k.1.side_by_side)) b)
      (λ k. ⊎_elim (λ l. absurd (lacks_not_tables k.1.all l k.1.side_by_side)) (λ m. k.0 ∙ sym m.0) b)
      a

  pub no_shape : {i : ℕ} (f : Ltl) → Unshaped es i → table f ≡ es → ⊥
  no_shape f a eq =
      ⊎_elim
      (λ l. lacks_not_tables (f ∷ []) l eq)
      (λ k. k.1.not_one (ap length (sym (tables_back k.1.all) ∙ ap (stack []) (k.1.side_by_side ∙ sym eq) ∙ tables_back (f ∷ []))))
      a

-- the rule that is broken, with the two that have one number joined
data Why (ws : List ℕ) (r : Refusal) : Type 0 where
  long : (Counted ws → ⊥) → Gives r 11 Formula 0 → Why ws r
  entry : Counted ws → (i : ℕ) → Unspelled ws i → Gives r 12 Formula i → Why ws r
  shape : Counted ws → (es : List Entry) → Lists ws es → (i : ℕ) → Unshaped es i → Gives r 13 Formula i → Why ws r
  heavy : Counted ws → (es : List Entry) → Lists ws es → (f : Ltl) → table f ≡ es → 10 < weight es → Gives r 14 Formula 0 → Why ws r

why : (ws : List ℕ) (r : Refusal) → Refused ws r → Why ws r
why ws r (by_length c g) = long c g
why ws r (by_entry c i u g) = entry c i u g
why ws r (by_parts c es l i k g) = shape c es l i (inl k) g
why ws r (by_number c es l k g) = shape c es l (length es) (inr (refl, k)) g
why ws r (by_weight c es l f eq k g) = heavy c es l f eq k g

module _ {ws : List ℕ} where
  spelled : {es : List Entry} {i : ℕ} → Lists ws es → Unspelled ws i → ⊥
  spelled {es} {i} l u = u.none (get_or es i True) (l.each i u.within)

  one_unspelled : {i j : ℕ} → Unspelled ws i → Unspelled ws j → i ≡ j
  one_unspelled {i} {j} u v =
      ⊎_elim
      (λ lt. let e = v.before i lt in absurd (u.none e.0 e.1))
      (λ ge. ⊎_elim (λ gt. let e = u.before j gt in absurd (v.none e.0 e.1)) (λ le. omega arith) (cases_lt j i))
      (cases_lt i j)

  one_why : (r s : Refusal) → Why ws r → Why ws s → r ≡ s
  one_why r s (long n g) (long n' g') = same g g'
  one_why r s (long n g) (entry c' i' u' g') = absurd (n c')
  one_why r s (long n g) (shape c' es' l' i' u' g') = absurd (n c')
  one_why r s (long n g) (heavy c' es' l' f' eq' k' g') = absurd (n c')
  one_why r s (entry c i u g) (long n' g') = absurd (n' c)
  one_why r s (entry c i u g) (entry c' i' u' g') = same (subst (λ p. Gives r 12 Formula p) (one_unspelled u u') g) g'
  one_why r s (entry c i u g) (shape c' es' l' i' u' g') = absurd (spelled l' u)
  one_why r s (entry c i u g) (heavy c' es' l' f' eq' k' g') = absurd (spelled l' u)
  one_why r s (shape c es l i u g) (long n' g') = absurd (n' c)
  one_why r s (shape c es l i u g) (entry c' i' u' g') = absurd (spelled l u')
  one_why r s (shape c es l i u g) (shape c' es' l' i' u' g') = same (subst (λ p. Gives r 13 Formula p) (one_shape (subst (λ xs. Unshaped xs i) (one_list l l') u) u') g) g'
  one_why r s (shape c es l i u g) (heavy c' es' l' f' eq' k' g') = absurd (no_shape f' (subst (λ xs. Unshaped xs i) (one_list l l') u) eq')
  one_why r s (heavy c es l f eq k g) (long n' g') = absurd (n' c)
  one_why r s (heavy c es l f eq k g) (entry c' i' u' g') = absurd (spelled l u')
  one_why r s (heavy c es l f eq k g) (shape c' es' l' i' u' g') = absurd (no_shape f (subst (λ xs. Unshaped xs i') (one_list l' l) u') eq)
  one_why r s (heavy c es l f eq k g) (heavy c' es' l' f' eq' k' g') = same g g'

  not_granted : (r : Refusal) (es : List Entry) → Granted ws es → Why ws r → ⊥
  not_granted r es g (long n h) = n g.counted
  not_granted r es g (entry c i u h) = spelled g.lists u
  not_granted r es g (shape c fs l i u h) = no_shape g.formed.tree (subst (λ xs. Unshaped xs i) (one_list l g.lists) u) g.formed.whole
  not_granted r es g (heavy c fs l f eq k h) = omega (arith, g.formed.few, ap weight (one_list l g.lists))

  pub one_refusal : (r s : Refusal) → Refused ws r → Refused ws s → r ≡ s
  one_refusal r s a b = one_why r s (why ws r a) (why ws s b)

  pub not_both : (es : List Entry) (r : Refusal) → Granted ws es → Refused ws r → ⊥
  not_both es r g a = not_granted r es g (why ws r a)
