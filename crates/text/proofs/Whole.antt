-- The whole text. Assumes nothing.
use Rattle.std.proofs.Common.{◌≡◌, ℕ, ◌<◌, ◌≤◌, true, List, [], ◌∷◌, ◌++◌, length, take, None, Some, Ok, Err, Result, sym, refl, ap, ◌∙◌, subst, append-nil, arith, MatchResult}
use Rattle.draft.specs.declared.draft.Draft.{Draft}
use Rattle.draft.specs.Drafts.{Drafted}
use Rattle.formula.specs.Ltl.{Ltl, top, neg, or, until}
use Rattle.formula.specs.Stack.{in_range, tree}
use Rattle.formula.specs.Table.{table, ranged, weight}
use Rattle.formula.specs.View.{entries_of}
use Rattle.formula.specs.declared.entry.Entry.{Entry}
use Rattle.formula.specs.declared.entry.Entry.TheVariants.{Not, Or, Next, Until}
use Rattle.formula.specs.declared.formula.Formula.{Formula}
use Rattle.formula.proofs.Stacks.{tree_back}
use Rattle.grammar.specs.Machine.{phrase, outcome, not}
use Rattle.grammar.specs.Phrases.{Phrase, truth, named, prefixed, joined, write, mean, Within, strict, Is, OneReading}
use Rattle.grammar.specs.Texts.{Sized, Granted, Refused, by_byte, by_end, by_range, by_table, OutAt}
use Rattle.grammar.specs.declared.Fault.{Fault}
use Rattle.grammar.specs.declared.Fault.TheVariants.{Byte, End, Number}
use Rattle.grammar.specs.declared.Joint.TheVariants.{Or as Bar, And, Implies, Until as Till}
use Rattle.grammar.specs.declared.Name.TheVariants.{Fact, Enabled, Taken}
use Rattle.grammar.specs.declared.Prefix.TheVariants.{Not as Bang, Next as Ex, Finally, Globally}
use Rattle.grammar.proofs.OutAt.{number_there}
use Rattle.grammar.proofs.Outcomes.{wrong_says, short_says, big_is}
use Rattle.grammar.proofs.Reading.{one_reading}
use Rattle.grammar.proofs.Settled.{one_refusal, not_both}
use Rattle.refusal.specs.Causes.{Gives}
use Rattle.refusal.specs.declared.Layer.TheVariants.{Text}
use Rattle.refusal.specs.declared.Refusal.{Refusal}
use Rattle.std.proofs.lemmas.Bool.{and_parts, and_from, lt-ltb}
use Rattle.text.specs.Spelled.{left, Written, Tells}
use Rattle.text.specs.declared.reader.Reader.{Reader}
use Rattle.draft.proofs.Drafting.{kept_all, known, more}

pub refused : (xs : List ℕ) (e : Fault) (r : Refusal) → Sized xs → outcome (phrase ∷ []) 0 xs ≡ not e → Tells r e (length xs) → Refused xs r
refused xs (Byte i) r s h g = let q = wrong_says xs i h in by_byte s i q.0 q.1 q.2 g
refused xs End r s h g = let q = short_says xs h in by_end s q.0 q.1 g
refused xs (Number i) r s h g = let q = big_is xs i h in by_range s i q.0 q.1 q.2 q.3 g

-- what is promised of an answer
pub record Answered (xs : List ℕ) (o : Result Formula Refusal) : Type 0 where
  pub answer : MatchResult o (λ f. Granted xs (entries_of f)) (λ e. Refused xs e)
  pub only : (e : Refusal) → Refused xs e → o ≡ Err e
  pub reading : OneReading
  pub number : (e : Refusal) (i : ℕ) → o ≡ Err e → Gives e 24 Text i → OutAt xs i

pub answered_no : (xs : List ℕ) (r : Refusal) → Refused xs r → Answered xs (Err r)
answered_no xs r h = record {
  answer = h;
  only = λ e k. ap (λ x. Err x) (one_refusal xs r e h k);
  reading = one_reading;
  number = λ e i eq g. let same : r ≡ e = cc in number_there xs i e g (subst (Refused xs) same h);
}

pub answered_yes : (xs : List ℕ) (f : Formula) → Granted xs (entries_of f) → Answered xs (Ok f)
answered_yes xs f h = record {
  answer = h;
  only = λ e k. absurd (not_both xs (entries_of f) e h k);
  reading = one_reading;
  number = λ e i eq g. let z : ◌≡◌ {A = ℕ} 0 1 = cc in absurd (omega arith);
}

-- facts and events of a phrase are in range
in_range_append : (xs ys : List Entry) → in_range xs ≡ true → in_range ys ≡ true → in_range (xs ++ ys) ≡ true
in_range_append [] ys h k = k
in_range_append (x ∷ xs) ys h k = let b = and_parts (ranged x) (in_range xs) h in and_from (ranged x) (in_range (xs ++ ys)) b.0 (in_range_append xs ys b.1 k)

neg_in_range : (f : Ltl) → in_range (table f) ≡ true → in_range (table (neg f)) ≡ true
neg_in_range f h = in_range_append (table f) (Not ∷ []) h refl

two_in_range : (f g : Ltl) (e : Entry) → ranged e ≡ true → in_range (table f) ≡ true → in_range (table g) ≡ true → in_range ((table f ++ table g) ++ e ∷ []) ≡ true
two_in_range f g e r h k = in_range_append (table f ++ table g) (e ∷ []) (in_range_append (table f) (table g) h k) (and_from (ranged e) true r refl)

pub mean_in_range : (p : Phrase) → Within strict p → in_range (table (mean p)) ≡ true
mean_in_range truth h = refl
mean_in_range (named Fact n) h = and_from _ true (lt-ltb n 32 h) refl
mean_in_range (named Enabled n) h = and_from _ true (lt-ltb n 64 h) refl
mean_in_range (named Taken n) h = and_from _ true (lt-ltb n 64 h) refl
mean_in_range (prefixed Bang p) h = neg_in_range (mean p) (mean_in_range p h)
mean_in_range (prefixed Ex p) h = in_range_append (table (mean p)) (Next ∷ []) (mean_in_range p h) refl
mean_in_range (prefixed Finally p) h = two_in_range top (mean p) Until refl refl (mean_in_range p h)
mean_in_range (prefixed Globally p) h = neg_in_range (until top (neg (mean p))) (two_in_range top (neg (mean p)) Until refl refl (neg_in_range (mean p) (mean_in_range p h)))
mean_in_range (joined Bar p q) h = two_in_range (mean p) (mean q) Or refl (mean_in_range p h.0) (mean_in_range q h.1)
mean_in_range (joined And p q) h = neg_in_range (or (neg (mean p)) (neg (mean q))) (two_in_range (neg (mean p)) (neg (mean q)) Or refl (neg_in_range (mean p) (mean_in_range p h.0)) (neg_in_range (mean q) (mean_in_range q h.1)))
mean_in_range (joined Implies p q) h = two_in_range (neg (mean p)) (mean q) Or refl (neg_in_range (mean p) (mean_in_range p h.0)) (mean_in_range q h.1)
mean_in_range (joined Till p q) h = two_in_range (mean p) (mean q) Until refl (mean_in_range p h.0) (mean_in_range q h.1)

module _ {r r' : Reader} {had has : Draft} (w : Written r r' had has) (end : left r' ≡ []) (none : Drafted had []) where
  pub is : Is strict (left r)
  is = record {
    phrase = w.says;
    within = w.fine;
    text = sym (w.took.text ∙ ap (λ s. write w.says ++ s) end ∙ append-nil (write w.says));
  }

  all : Drafted has (table (mean w.says))
  all = w.drafted [] none

  pub too_many : {e : Refusal} → Sized (left r) → has.count ≡ None → Gives e 25 Text 0 → Refused (left r) e
  unfolding is
  too_many s h g = by_table s is (λ k. omega (arith, more all h, k.0)) g

  module _ {n : ℕ} (some : has.count ≡ Some n) where
    pub few : n ≤ 48
    few = (known all some).1

    table_is : take n has.entries ≡ table (mean w.says)
    table_is = kept_all has n (table (mean w.says)) all some

    pub too_heavy : {e : Refusal} → Sized (left r) → 10 < weight (take n has.entries) → Gives e 25 Text 0 → Refused (left r) e
    unfolding is
    too_heavy s h g = by_table s is (λ k. omega (arith, k.1, ap weight table_is)) g

    pub granted : Sized (left r) → weight (take n has.entries) ≤ 10 → Granted (left r) (take n has.entries)
    unfolding is
    granted s h = record { sized = s; says = is; table_is = sym table_is; small = (omega (arith, known all some, ap length table_is), h) }

    pub one_whole : table (tree (take n has.entries)) ≡ take n has.entries
    one_whole = ap (λ es. table (tree es)) table_is ∙ ap table (tree_back (mean w.says)) ∙ sym table_is

    pub all_in_range : in_range (take n has.entries) ≡ true
    all_in_range = subst (λ es. in_range es ≡ true) (sym table_is) (mean_in_range w.says w.fine)
