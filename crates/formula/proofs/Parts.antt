-- The parts of the formula that ends at an entry: where they end, their sizes, and the elementary entries before them. Assumes nothing.
use Rattle.std.proofs.Common.{◌≡◌, ℕ, ◌+◌, ◌-◌, ◌<◌, ◌≤◌, true, List, [], ◌∷◌, ◌++◌, length, get_or, take, drop, sym, refl, ap, ◌∙◌, subst, arith, length-append, take-append-drop}
use Rattle.std.proofs.lemmas.List.{take_more, take_at, length-take-le, take-take}
use Rattle.formula.specs.Ltl.{Ltl, top, fact, enabled, taken, neg, or, next, until}
use Rattle.formula.specs.Table.{table, tables, size, arity}
use Rattle.formula.specs.Stack.{sound, push, stack, latest, tree, sub}
use Rattle.formula.specs.declared.entry.Entry.{Entry}
use Rattle.formula.specs.declared.entry.Entry.TheVariants.{True, Not, Or, Next, Until}
use Rattle.formula.proofs.Stacks.{stack_append, tables_back, stacked, sound_left, sound_last}

pub some_size : (f : Ltl) → 1 ≤ size f
some_size top = omega arith
some_size (fact p) = omega arith
some_size (enabled t) = omega arith
some_size (taken t) = omega arith
some_size (neg f) = omega (arith, length-append (table f) (Not ∷ []))
some_size (or f g) = omega (arith, length-append (table f ++ table g) (Or ∷ []))
some_size (next f) = omega (arith, length-append (table f) (Next ∷ []))
some_size (until f g) = omega (arith, length-append (table f ++ table g) (Until ∷ []))

-- an entry with one part, which ends just before it
pub record One (es : List Entry) (i : ℕ) (op : Ltl → Ltl) : Type 0 where
  pub some : 1 ≤ i
  pub is : sub es i ≡ op (sub es (i - 1))
  pub fits : size (sub es (i - 1)) ≤ i

-- where the first of two parts ends
abbrev pub first_end : List Entry → ℕ → ℕ
first_end es i = i - 1 - size (sub es (i - 1))

-- an entry with two parts
pub record Two (es : List Entry) (i : ℕ) (op : Ltl → Ltl → Ltl) : Type 0 where
  pub some : 1 ≤ i
  pub room : size (sub es (i - 1)) + 1 ≤ i
  pub is : sub es i ≡ op (sub es (first_end es i)) (sub es (i - 1))
  pub fits : size (sub es (first_end es i)) + size (sub es (i - 1)) ≤ i
  pub before : take i es ≡ take (first_end es i + 1) es ++ table (sub es (i - 1))

module _ (es : List Entry) (h : sound 0 es ≡ true) (i : ℕ) (within : i < length es) where
  sound_take : (n : ℕ) → sound 0 (take n es) ≡ true
  sound_take n = sound_left (take n es) (drop n es) 0 (subst (λ l. sound 0 l ≡ true) (sym (take-append-drop n es)) h)

  -- the stack before i, and what entry e makes of it
  pub record At (e : Entry) : Type 0 where
    pub parts : arity e ≤ length (stack [] (take i es))
    pub is : sub es i ≡ latest (push e (stack [] (take i es)))
    pub table : tables (stack [] (take i es)) ≡ take i es

  pub at_entry : (e : Entry) → get_or es i True ≡ e → At e
  at_entry e eq =
      let more : take (i + 1) es ≡ take i es ++ e ∷ [] = take_more es i True within ∙ ap (λ x. take i es ++ x ∷ []) eq in
      let p = stacked (take i es) [] (sound_take i) in
      let a = sound_last (take i es) e 0 (subst (λ l. sound 0 l ≡ true) more (sound_take (i + 1))) in
      record {
        parts = omega (arith, p.high);
        is = ap (λ l. tree l) more ∙ ap latest (stack_append [] (take i es) (e ∷ []));
        table = p.table;
      }

  -- the entries up to i end with the table of the formula that ends there
  pub ends_with : take (i + 1) es ≡ take (i + 1 - size (sub es i)) es ++ table (sub es i)
  ends_with = go (stack [] (take (i + 1) es)) refl (stacked (take (i + 1) es) [] (sound_take (i + 1))).table
    where
      go : (s : List Ltl) → stack [] (take (i + 1) es) ≡ s → tables (stack [] (take (i + 1) es)) ≡ take (i + 1) es → take (i + 1) es ≡ take (i + 1 - size (sub es i)) es ++ table (sub es i)
      go [] p t =
          let none : take (i + 1) es ≡ [] = sym t ∙ ap tables p in
          absurd (omega (arith, ap length none, length-take-le (i + 1) es (omega arith)))
      go (f ∷ s) p t =
          let is : sub es i ≡ f = ap latest p in
          let all : tables s ++ table f ≡ take (i + 1) es = sym (ap tables p) ∙ t in
          let len = sym (length-append (tables s) (table f)) ∙ ap length all ∙ length-take-le (i + 1) es (omega arith) in
          let n : i + 1 - size (sub es i) ≡ length (tables s) = omega (arith, ap size is) in
          let front : take (i + 1 - size (sub es i)) es ≡ tables s =
          ap (λ n. take n es) n
          ∙ sym (take-take (length (tables s)) (i + 1) es (omega arith))
          ∙ ap (take (length (tables s))) (sym all)
          ∙ take_at (tables s) (table f) (length (tables s)) refl in
          sym all ∙ (λ j. sym front j ++ table (sym is j))

module _ (es : List Entry) (h : sound 0 es ≡ true) (i : ℕ) (within : i < length es) (e : Entry) (eq : get_or es i True ≡ e) where
  a : At es h i within e
  a = at_entry es h i within e eq

  long : length (tables (stack [] (take i es))) ≡ i
  long = ap length a.table ∙ length-take-le i es (omega arith)

  last_before : 1 ≤ i → sub es (i - 1) ≡ latest (stack [] (take i es))
  last_before some = let n : i - 1 + 1 ≡ i = omega arith in ap (λ n. tree (take n es)) n

  -- an entry with no part
  pub with_none : (f : Ltl) → ((s : List Ltl) → push e s ≡ f ∷ s) → sub es i ≡ f
  with_none f steps = a.is ∙ ap latest (steps (stack [] (take i es)))

  pub with_one : (op : Ltl → Ltl) → arity e ≡ 1 → ((f : Ltl) (s : List Ltl) → push e (f ∷ s) ≡ op f ∷ s) → One es i op
  with_one op one steps = go (stack [] (take i es)) refl (omega (arith, a.parts))
    where
      go : (s : List Ltl) → stack [] (take i es) ≡ s → 1 ≤ length s → One es i op
      go [] p l = absurd (omega arith)
      go (f ∷ s) p l =
          let len = sym long ∙ ap (λ l. length (tables l)) p ∙ length-append (tables s) (table f) in
          let some : 1 ≤ i = omega (arith, some_size f) in
          let last : sub es (i - 1) ≡ f = last_before some ∙ ap latest p in
          record {
            some = some;
            is = a.is ∙ ap (λ l. latest (push e l)) p ∙ ap latest (steps f s) ∙ ap op (sym last);
            fits = omega (arith, ap size last);
          }

  pub with_two : (op : Ltl → Ltl → Ltl) → arity e ≡ 2 → ((f g : Ltl) (s : List Ltl) → push e (g ∷ f ∷ s) ≡ op f g ∷ s) → Two es i op
  with_two op two steps = go (stack [] (take i es)) refl (omega (arith, a.parts))
    where
      go : (s : List Ltl) → stack [] (take i es) ≡ s → 2 ≤ length s → Two es i op
      go [] p l = absurd (omega arith)
      go (f ∷ []) p l = absurd (omega arith)
      go (g ∷ f ∷ s) p l =
          let len = sym long ∙ ap (λ l. length (tables l)) p ∙ length-append (tables (f ∷ s)) (table g) in
          let len' = length-append (tables s) (table f) in
          let some : 1 ≤ i = omega (arith, some_size g) in
          let last : sub es (i - 1) ≡ g = last_before some ∙ ap latest p in
          let lsize : size (sub es (i - 1)) ≡ size g = ap size last in
          let n : first_end es i + 1 ≡ length (tables (f ∷ s)) = omega (arith, some_size f) in
          let all : take i es ≡ tables (f ∷ s) ++ table g = sym a.table ∙ ap tables p in
          let front : take (length (tables (f ∷ s))) es ≡ tables (f ∷ s) =
          sym (take-take (length (tables (f ∷ s))) i es (omega arith))
          ∙ ap (take (length (tables (f ∷ s)))) all
          ∙ take_at (tables (f ∷ s)) (table g) (length (tables (f ∷ s))) refl in
          let fore : take (first_end es i + 1) es ≡ tables (f ∷ s) = ap (λ n. take n es) n ∙ front in
          let first : sub es (first_end es i) ≡ f = ap tree fore ∙ ap latest (tables_back (f ∷ s)) in
          record {
            some = some;
            room = omega (arith, some_size f);
            is = a.is ∙ ap (λ l. latest (push e l)) p ∙ ap latest (steps f g s) ∙ (λ j. op (sym first j) (sym last j));
            fits = omega (arith, ap size first);
            before = all ∙ (λ j. sym fore j ++ table (sym last j));
          }
