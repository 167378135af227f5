-- Phrases from their parts. Assumes nothing.
use Rattle.std.proofs.Common.{◌≡◌, ℕ, ◌<◌, eqb, List, [], ◌∷◌, ◌++◌, Ok, Err, Result, sym, refl, ap, ◌∙◌, subst, append_assoc, append-nil, arith, MatchResult}
use Rattle.std.proofs.lemmas.Bool.{cond-false, ne_eqb}
use Rattle.formula.specs.Table.{table}
use Rattle.formula.specs.declared.entry.Entry.TheVariants.{True, Fact, Enabled, Taken, Or, Until}
use Rattle.grammar.specs.Machine.{Part, phrase, op, num, lit, name_parts, mark_of, mark_none, begin, outcome}
use Rattle.grammar.specs.Phrases.{Phrase, truth, named, prefixed, joined, digits, opening, letter, sign, write, mean}
use Rattle.grammar.specs.declared.Fault.{Fault}
use Rattle.grammar.specs.declared.Fault.TheVariants.{Byte}
use Rattle.grammar.specs.declared.Joint.{Joint}
use Rattle.grammar.specs.declared.Joint.TheVariants.{Or as Bar, And, Implies, Until as Till}
use Rattle.grammar.specs.declared.Name.{Name}
use Rattle.grammar.specs.declared.Name.TheVariants.{Fact as FactName, Enabled as EnabledName, Taken as TakenName}
use Rattle.grammar.specs.declared.Prefix.{Prefix}
use Rattle.grammar.specs.declared.Prefix.TheVariants.{Not as Bang, Next as Ex, Finally, Globally}
use Rattle.grammar.proofs.Marks.{mark_84, mark_40, mark_opening, mark_letter, shape}
use Rattle.draft.specs.declared.draft.Draft.{Draft}
use Rattle.draft.specs.Drafts.{Adds, front, rear, between, behind}
use Rattle.text.specs.Spelled.{left, Char, Ended, Took, Failed, Named, Written}
use Rattle.text.specs.declared.reader.Reader.{Reader}
use Rattle.draft.proofs.Drafting.{adds, renamed}
use Rattle.text.proofs.Steps.{longer, step, halt, ended}

flat_prefix : (x : Prefix) (p : Phrase) → (front x ++ table (mean p)) ++ rear x ≡ table (mean (prefixed x p))
flat_prefix Bang p = refl
flat_prefix Ex p = refl
flat_prefix Finally p = refl
flat_prefix Globally p = simp append_assoc

flat_joint : (j : Joint) (p q : Phrase) → ((table (mean p) ++ between j) ++ table (mean q)) ++ behind j ≡ table (mean (joined j p q))
flat_joint Bar p q = ap (λ s. (s ++ table (mean q)) ++ Or ∷ []) (append-nil (table (mean p)))
flat_joint And p q = simp append_assoc
flat_joint Implies p q = refl
flat_joint Till p q = ap (λ s. (s ++ table (mean q)) ++ Until ∷ []) (append-nil (table (mean p)))

-- a number that nothing closes
unclosed : {r r' : Reader} {ys : List Part} {s : List ℕ} → Took ys r r' s → Took ys r r' (s ++ [])
unclosed {r} {r'} {ys} {s} h = subst (Took ys r r') (sym (append-nil s)) h

-- names
module _ {r r' : Reader} where
  module _ {had has : Draft} {q : ℕ} where
    pub fact_named : q < 32 → Took (num FactName ∷ []) r r' (digits q) → Adds had has (Fact q ∷ []) → Named FactName r r' had has
    fact_named lt h d = record { number = q; below = lt; took = unclosed h; drafted = d }

    pub enabled_named : q < 64 → Took (num EnabledName ∷ []) r r' (digits q) → Adds had has (Enabled q ∷ []) → Named EnabledName r r' had has
    enabled_named lt h d = record { number = q; below = lt; took = unclosed h; drafted = d }

    pub taken_named : {r'' : Reader} → q < 64 → Took (num TakenName ∷ []) r r' (digits q) → Took (lit 93 ∷ []) r' r'' (93 ∷ []) → Adds had has (Taken q ∷ []) → Named TakenName r r'' had has
    taken_named {r''} lt h z d = record {
      number = q;
      below = lt;
      took = record {
        text = h.text ∙ ap (λ v. digits q ++ v) z.text ∙ sym (append_assoc (digits q) (93 ∷ []) (left r''));
        less = omega (arith, h.less, z.less);
        goes = λ k. h.goes (lit 93 ∷ k) ∙ z.goes k;
      };
      drafted = d;
    }

-- no character that begins a phrase
pub none_begins : (c : ℕ) → (c ≡ 84 → ⊥) → (c ≡ 112 → ⊥) → (c ≡ 101 → ⊥) → (c ≡ 91 → ⊥) → (c ≡ 33 → ⊥) → (c ≡ 88 → ⊥) → (c ≡ 70 → ⊥) → (c ≡ 71 → ⊥) → (c ≡ 40 → ⊥) → mark_of c ≡ mark_none
unfolding mark_of
none_begins c a1 a2 a3 a4 a5 a6 a7 a8 a9 =
    cond-false (eqb c 84) _ _ (ne_eqb c 84 a1) ∙ cond-false (eqb c 112) _ _ (ne_eqb c 112 a2) ∙ cond-false (eqb c 101) _ _ (ne_eqb c 101 a3) ∙ cond-false (eqb c 91) _ _ (ne_eqb c 91 a4) ∙ cond-false (eqb c 33) _ _ (ne_eqb c 33 a5) ∙ cond-false (eqb c 88) _ _ (ne_eqb c 88 a6) ∙ cond-false (eqb c 70) _ _ (ne_eqb c 70 a7) ∙ cond-false (eqb c 71) _ _ (ne_eqb c 71 a8) ∙ cond-false (eqb c 40) _ _ (ne_eqb c 40 a9)

pub fails_first : {r r' : Reader} {c : ℕ} → Char r r' c → mark_of c ≡ mark_none → Failed (phrase ∷ []) r (Byte r.at)
fails_first h eq k = halt h (phrase ∷ k) (ap (λ m. begin m k) eq) (ap (λ m. begin m k) eq)

pub fails_end : {r : Reader} {d : Fault} → Ended r d → Failed (phrase ∷ []) r d
fails_end h k = ended h (phrase ∷ k) refl

-- what a first character leads to
module _ {r r1 : Reader} where
  names : (a : Name) → Char r r1 (opening a) → (k : List Part) → outcome (phrase ∷ k) r.at (left r) ≡ outcome (name_parts a ++ k) r1.at (left r1)
  names a h k = step h (phrase ∷ k) (name_parts a ++ k) (ap (λ m. begin m k) (mark_opening a))

  prefixes : (x : Prefix) → Char r r1 (letter x) → (k : List Part) → outcome (phrase ∷ k) r.at (left r) ≡ outcome (phrase ∷ k) r1.at (left r1)
  prefixes x h k = step h (phrase ∷ k) (phrase ∷ k) (ap (λ m. begin m k) (mark_letter x))

  opens : Char r r1 40 → (k : List Part) → outcome (phrase ∷ k) r.at (left r) ≡ outcome (phrase ∷ op ∷ phrase ∷ lit 41 ∷ k) r1.at (left r1)
  opens h k = step h (phrase ∷ k) (phrase ∷ op ∷ phrase ∷ lit 41 ∷ k) (ap (λ m. begin m k) mark_40)

  pub fails_name : {d : Fault} (a : Name) → Char r r1 (opening a) → Failed (name_parts a) r1 d → Failed (phrase ∷ []) r d
  fails_name a h j k = names a h k ∙ j k

  pub fails_prefix : {d : Fault} (x : Prefix) → Char r r1 (letter x) → Failed (phrase ∷ []) r1 d → Failed (phrase ∷ []) r d
  fails_prefix x h j k = prefixes x h k ∙ j k

  pub fails_one : {d : Fault} → Char r r1 40 → Failed (phrase ∷ []) r1 d → Failed (phrase ∷ []) r d
  fails_one h j k = opens h k ∙ j (op ∷ phrase ∷ lit 41 ∷ k)

  module _ {r2 : Reader} {s : List ℕ} (h : Char r r1 40) (w : Took (phrase ∷ []) r1 r2 s) where
    pub fails_op : {d : Fault} → Failed (op ∷ []) r2 d → Failed (phrase ∷ []) r d
    fails_op j k = opens h k ∙ w.goes (op ∷ phrase ∷ lit 41 ∷ k) ∙ j (phrase ∷ lit 41 ∷ k)

    module _ {r3 : Reader} {v : List ℕ} (z : Took (op ∷ []) r2 r3 v) where
      pub fails_two : {d : Fault} → Failed (phrase ∷ []) r3 d → Failed (phrase ∷ []) r d
      fails_two j k = opens h k ∙ w.goes (op ∷ phrase ∷ lit 41 ∷ k) ∙ z.goes (phrase ∷ lit 41 ∷ k) ∙ j (lit 41 ∷ k)

      pub fails_shut : {r4 : Reader} {u : List ℕ} {d : Fault} → Took (phrase ∷ []) r3 r4 u → Failed (lit 41 ∷ []) r4 d → Failed (phrase ∷ []) r d
      fails_shut y j k = opens h k ∙ w.goes (op ∷ phrase ∷ lit 41 ∷ k) ∙ z.goes (phrase ∷ lit 41 ∷ k) ∙ y.goes (lit 41 ∷ k) ∙ j k

  module _ {had : Draft} where
    pub is_truth : {has : Draft} → Char r r1 84 → Adds had has (True ∷ []) → Written r r1 had has
    is_truth h d = record {
      says = truth;
      fine = tt;
      took = record { text = h.text; less = omega (arith, longer h); goes = λ k. step h (phrase ∷ k) k (ap (λ m. begin m k) mark_84) };
      drafted = d;
    }

    pub is_name : {r2 : Reader} {has : Draft} (a : Name) → Char r r1 (opening a) → Named a r1 r2 had has → Written r r2 had has
    is_name a h w = record {
      says = named a w.number;
      fine = w.below;
      took = record {
        text = h.text ∙ ap (λ v. opening a ∷ v) w.took.text;
        less = omega (arith, longer h, w.took.less);
        goes = λ k. names a h k ∙ w.took.goes k;
      };
      drafted = w.drafted;
    }

    pub is_prefix : {r2 : Reader} {one mid has : Draft} (x : Prefix) → Char r r1 (letter x) → Adds had one (front x) → Written r1 r2 one mid → Adds mid has (rear x) → Written r r2 had has
    is_prefix x h a w d = record {
      says = prefixed x w.says;
      fine = w.fine;
      took = record {
        text = h.text ∙ ap (λ v. letter x ∷ v) w.took.text;
        less = omega (arith, longer h, w.took.less);
        goes = λ k. prefixes x h k ∙ w.took.goes k;
      };
      drafted = renamed (flat_prefix x w.says) (adds (adds a w.drafted) d);
    }

    pub is_two : {r2 r3 r4 r5 : Reader} {d1 d2 d3 has : Draft} (j : Joint) → Char r r1 40 → Written r1 r2 had d1 → Took (op ∷ []) r2 r3 (sign j ∷ []) → Adds d1 d2 (between j) → Written r3 r4 d2 d3 → Took (lit 41 ∷ []) r4 r5 (41 ∷ []) → Adds d3 has (behind j) → Written r r5 had has
    is_two {r5 = r5} j h w z d v y d' = record {
      says = joined j w.says v.says;
      fine = (w.fine, v.fine);
      took = record {
        text =
            h.text
            ∙ ap (λ s. 40 ∷ s) (w.took.text ∙ ap (λ s. write w.says ++ s) (z.text ∙ ap (λ s. sign j ∷ s) (v.took.text ∙ ap (λ s. write v.says ++ s) y.text)) ∙ sym (shape (sign j) (write w.says) (write v.says) (left r5)));
        less = omega (arith, longer h, w.took.less, z.less, v.took.less, y.less);
        goes = λ k. opens h k ∙ w.took.goes (op ∷ phrase ∷ lit 41 ∷ k) ∙ z.goes (phrase ∷ lit 41 ∷ k) ∙ v.took.goes (lit 41 ∷ k) ∙ y.goes k;
      };
      drafted = renamed (flat_joint j w.says v.says) (adds (adds (adds w.drafted d) v.drafted) d');
    }

-- a name that is read or cannot be, behind its first byte
pub name_cases : (r r1 r2 : Reader) (had has : Draft) (o : Result (Unit {0}) Fault) (a : Name) → Char r r1 (opening a) → MatchResult o (λ _. Named a r1 r2 had has) (λ e. Failed (name_parts a) r1 e) → MatchResult o (λ _. Written r r2 had has) (λ e. Failed (phrase ∷ []) r e)
name_cases r r1 r2 had has (Ok x) a h w = is_name a h w
name_cases r r1 r2 had has (Err e) a h w = fails_name a h w
