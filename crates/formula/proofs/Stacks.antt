-- Reading a table with a stack, and back. Assumes nothing.
use Rattle.std.proofs.Common.{◌≡◌, ℕ, ◌+◌, ◌-◌, ◌≤◌, true, leb, List, [], ◌∷◌, ◌++◌, length, sym, refl, ap, ◌∙◌, subst, append_assoc, append-nil, arith}
use Rattle.std.proofs.lemmas.Bool.{and_parts, and_from, leb-true, le-leb}
use Rattle.formula.specs.Ltl.{Ltl, top, fact, enabled, taken, neg, or, next, until}
use Rattle.formula.specs.declared.entry.Entry.{Entry}
use Rattle.formula.specs.declared.entry.Entry.TheVariants.{True, Fact, Enabled, Taken, Not, Or, Next, Until}
use Rattle.formula.specs.Table.{table, tables, arity}
use Rattle.formula.specs.Stack.{depth, sound, push, stack, latest, tree}

pub stack_append : (s : List Ltl) (xs ys : List Entry) → stack s (xs ++ ys) ≡ stack (stack s xs) ys
stack_append s [] ys = refl
stack_append s (x ∷ xs) ys = stack_append (push x s) xs ys

-- reading a formula's table adds that formula
pub table_back : (f : Ltl) (s : List Ltl) → stack s (table f) ≡ f ∷ s
table_back top s = refl
table_back (fact p) s = refl
table_back (enabled t) s = refl
table_back (taken t) s = refl
table_back (neg f) s = stack_append s (table f) (Not ∷ []) ∙ ap (push Not) (table_back f s)
table_back (or f g) s =
    stack_append s (table f ++ table g) (Or ∷ [])
    ∙ ap (push Or) (stack_append s (table f) (table g) ∙ ap (λ l. stack l (table g)) (table_back f s) ∙ table_back g (f ∷ s))
table_back (next f) s = stack_append s (table f) (Next ∷ []) ∙ ap (push Next) (table_back f s)
table_back (until f g) s =
    stack_append s (table f ++ table g) (Until ∷ [])
    ∙ ap (push Until) (stack_append s (table f) (table g) ∙ ap (λ l. stack l (table g)) (table_back f s) ∙ table_back g (f ∷ s))

pub tables_back : (s : List Ltl) → stack [] (tables s) ≡ s
tables_back [] = refl
tables_back (f ∷ s) = stack_append [] (tables s) (table f) ∙ ap (λ l. stack l (table f)) (tables_back s) ∙ table_back f s

-- one entry that lacks no part
pub record Pushed (e : Entry) (s : List Ltl) : Type 0 where
  pub table : tables (push e s) ≡ tables s ++ e ∷ []
  pub high : length (push e s) ≡ length s - arity e + 1

pushed : (e : Entry) (s : List Ltl) → arity e ≤ length s → Pushed e s
pushed True s h = record { table = refl; high = omega arith }
pushed (Fact p) s h = record { table = refl; high = omega arith }
pushed (Enabled p) s h = record { table = refl; high = omega arith }
pushed (Taken p) s h = record { table = refl; high = omega arith }
pushed Not [] h = absurd (omega arith)
pushed Not (f ∷ s) h = record { table = sym (append_assoc (tables s) (table f) (Not ∷ [])); high = omega arith }
pushed Or [] h = absurd (omega arith)
pushed Or (g ∷ []) h = absurd (omega arith)
pushed Or (g ∷ f ∷ s) h = record { table = simp append_assoc; high = omega arith }
pushed Next [] h = absurd (omega arith)
pushed Next (f ∷ s) h = record { table = sym (append_assoc (tables s) (table f) (Next ∷ [])); high = omega arith }
pushed Until [] h = absurd (omega arith)
pushed Until (g ∷ []) h = absurd (omega arith)
pushed Until (g ∷ f ∷ s) h = record { table = simp append_assoc; high = omega arith }

-- entries that lack no part
pub record Stacked (s : List Ltl) (es : List Entry) : Type 0 where
  pub table : tables (stack s es) ≡ tables s ++ es
  pub high : length (stack s es) ≡ depth (length s) es

pub stacked : (es : List Entry) (s : List Ltl) → sound (length s) es ≡ true → Stacked s es
stacked [] s h = record { table = sym (append-nil (tables s)); high = refl }
stacked (e ∷ es) s h =
    let both = and_parts (leb (arity e) (length s)) (sound (length s - arity e + 1) es) h in
    let p = pushed e s (leb-true _ _ both.0) in
    let r = stacked es (push e s) (subst (λ n. sound n es ≡ true) (sym p.high) both.1) in
    record {
      table = r.table ∙ ap (λ l. l ++ es) p.table ∙ append_assoc (tables s) (e ∷ []) es;
      high = r.high ∙ ap (λ n. depth n es) p.high;
    }

pub sound_left : (xs ys : List Entry) (d : ℕ) → sound d (xs ++ ys) ≡ true → sound d xs ≡ true
sound_left [] ys d h = refl
sound_left (x ∷ xs) ys d h =
    let both = and_parts (leb (arity x) d) (sound (d - arity x + 1) (xs ++ ys)) h in
    and_from (leb (arity x) d) (sound (d - arity x + 1) xs) both.0 (sound_left xs ys (d - arity x + 1) both.1)

pub sound_last : (xs : List Entry) (e : Entry) (d : ℕ) → sound d (xs ++ e ∷ []) ≡ true → arity e ≤ depth d xs
sound_last [] e d h = leb-true _ _ (and_parts (leb (arity e) d) true h).0
sound_last (x ∷ xs) e d h = sound_last xs e (d - arity x + 1) (and_parts (leb (arity x) d) (sound (d - arity x + 1) (xs ++ e ∷ [])) h).1

pub sound_push : (xs : List Entry) (e : Entry) (d : ℕ) → sound d xs ≡ true → arity e ≤ depth d xs → sound d (xs ++ e ∷ []) ≡ true
sound_push [] e d h a = and_from (leb (arity e) d) true (le-leb _ _ a) refl
sound_push (x ∷ xs) e d h a =
    let both = and_parts (leb (arity x) d) (sound (d - arity x + 1) xs) h in
    and_from (leb (arity x) d) (sound (d - arity x + 1) (xs ++ e ∷ [])) both.0 (sound_push xs e (d - arity x + 1) both.1 a)

-- the whole table is the table of its formula
pub whole : (es : List Entry) → sound 0 es ≡ true → depth 0 es ≡ 1 → table (tree es) ≡ es
whole es h one = let p = stacked es [] h in go (stack [] es) (p.high ∙ one) p.table
  where
    go : (s : List Ltl) → length s ≡ 1 → tables s ≡ es → table (latest s) ≡ es
    go [] l e = absurd (omega arith)
    go (f ∷ []) l e = e
    go (f ∷ g ∷ s) l e = absurd (omega arith)

-- the entries lack no part from depth d on, and end at depth n
pub record Stands (d : ℕ) (es : List Entry) (n : ℕ) : Type 0 where
  pub whole : sound d es ≡ true
  pub high : depth d es ≡ n

pub then : (d m n : ℕ) (xs ys : List Entry) → Stands d xs m → Stands m ys n → Stands d (xs ++ ys) n
then d m n [] ys a b = subst (λ k. Stands k ys n) (sym a.high) b
then d m n (x ∷ xs) ys a b =
    let q = and_parts (leb (arity x) d) (sound (d - arity x + 1) xs) a.whole in
    let r = then (d - arity x + 1) m n xs ys (record { whole = q.1; high = a.high }) b in
    record { whole = and_from (leb (arity x) d) (sound (d - arity x + 1) (xs ++ ys)) q.0 r.whole; high = r.high }

one : (d n : ℕ) (e : Entry) → arity e ≤ d → d - arity e + 1 ≡ n → Stands d (e ∷ []) n
one d n e h k = record { whole = and_from (leb (arity e) d) true (le-leb _ _ h) refl; high = k }

two : (f g : Ltl) (d : ℕ) (e : Entry) → Stands d (table f) (d + 1) → Stands (d + 1) (table g) (d + 1 + 1) → arity e ≡ 2 → Stands d ((table f ++ table g) ++ e ∷ []) (d + 1)
two f g d e a b eq = then d (d + 1 + 1) (d + 1) (table f ++ table g) (e ∷ []) (then d (d + 1) (d + 1 + 1) (table f) (table g) a b) (one (d + 1 + 1) (d + 1) e (omega arith) (omega arith))

-- a formula's table is one formula more
pub stands : (f : Ltl) (d : ℕ) → Stands d (table f) (d + 1)
stands top d = one d (d + 1) True (omega arith) (omega arith)
stands (fact n) d = one d (d + 1) (Fact n) (omega arith) (omega arith)
stands (enabled n) d = one d (d + 1) (Enabled n) (omega arith) (omega arith)
stands (taken n) d = one d (d + 1) (Taken n) (omega arith) (omega arith)
stands (neg f) d = then d (d + 1) (d + 1) (table f) (Not ∷ []) (stands f d) (one (d + 1) (d + 1) Not (omega arith) (omega arith))
stands (next f) d = then d (d + 1) (d + 1) (table f) (Next ∷ []) (stands f d) (one (d + 1) (d + 1) Next (omega arith) (omega arith))
stands (or f g) d = two f g d Or (stands f d) (stands g (d + 1)) refl
stands (until f g) d = two f g d Until (stands f d) (stands g (d + 1)) refl

-- a table that is its tree's lacks no part
pub whole_sound : (es : List Entry) → table (tree es) ≡ es → sound 0 es ≡ true
whole_sound es w = subst (λ l. sound 0 l ≡ true) w (stands (tree es) 0).whole

pub tree_back : (f : Ltl) → tree (table f) ≡ f
tree_back f = ap latest (table_back f [])
