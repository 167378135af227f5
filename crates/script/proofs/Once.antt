-- A line says one call at most. Relies on Cuts and Lists.
use Rattle.std.proofs.Common.{Bool, true, false, not, Option, None, Some, Result, Ok, Err, MatchResult, MatchOption, ◌≢◌, ◌≡◌, ℕ, cond, List, [], ◌∷◌, ◌++◌, length, get_or, sym, refl, ap, ◌∙◌, subst, arith}
use Rattle.std.specs.Str.{bytes_eq}
use Rattle.std.specs.Array.{IsWholeChunk}
use Rattle.std.specs.Bool.{then_some}
use Rattle.std.specs.Option.{is_some}
use Rattle.std.specs.Result.{IsOk, result_ok}
use Rattle.script.specs.declared.calls.ListWord.TheVariants.{Formula, Table, Rule}
use Rattle.script.specs.declared.calls.AloneWord.TheVariants.{Ask, Help}
use Rattle.script.specs.declared.calls.OneWord.TheVariants.{Initial, Facts, Arcs}
use Rattle.script.specs.declared.calls.AloneWord.{AloneWord}
use Rattle.script.specs.declared.calls.Call.TheVariants.{Alone as AloneCall}
use Rattle.script.specs.declared.calls.Word.{Word}
use Rattle.script.specs.declared.calls.Word.TheVariants.{List as ListOf, Text, Hex, Alone, One, Arc}
use Rattle.script.specs.Words.{Blank, Cut}
use Rattle.script.specs.Values.{Numbers}
use Rattle.script.specs.Says.{spelled, Meaning, meaning, list, text, one, arc, Given, Says, Skipped, Plain}
use Rattle.script.proofs.Cuts.{cut_once}
use Rattle.script.proofs.Lists.{steady_number, steady_pair, gives_once}

-- every word that any script may use
every : List Word
every = ListOf Formula ∷ Text ∷ Hex ∷ ListOf Table ∷ ListOf Rule ∷ Alone Ask ∷ One Initial ∷ One Facts ∷ One Arcs ∷ Arc ∷ Alone Help ∷ []

-- the first of some words that is spelled so
word_in : List Word → List ℕ → Word
word_in [] bs = Text
word_in (w ∷ ws) bs = cond (bytes_eq bs (spelled w)) w (word_in ws bs)

back : (w : Word) → word_in every (spelled w) ≡ w
unfolding word_in every
back (ListOf Formula) = refl
back Text = refl
back Hex = refl
back (ListOf Table) = refl
back (ListOf Rule) = refl
back (Alone Ask) = refl
back (One Initial) = refl
back (One Facts) = refl
back (One Arcs) = refl
back Arc = refl
back (Alone Help) = refl

spelled_once : {v w : Word} → spelled v ≡ spelled w → v ≡ w
spelled_once {v} {w} e = sym (back v) ∙ ap (word_in every) e ∙ back w

pub numbers_once : (bs xs ys : List ℕ) → Numbers bs xs → Numbers bs ys → xs ≡ ys
numbers_once bs xs ys a b = gives_once steady_number xs ys bs a b

-- the numbers of a line, where they are as many as asked
pub exact : {E : Type 0} (rest : List ℕ) (n : ℕ) (all : List ℕ) (r : Result (List ℕ) E) → Numbers rest all → (length all ≡ n → IsOk r) × MatchResult r (λ ns. IsWholeChunk all ns n) (λ _. length all ≢ n) → MatchOption (result_ok r) ((ns : List ℕ) → length ns ≡ n → Numbers rest ns → ⊥) (λ ns. (length ns ≡ n) × Numbers rest ns)
exact {E} rest n all (Ok ns) has h = (ap length h.1.same ∙ h.1.long, subst (Numbers rest) (sym h.1.same) has)
exact {E} rest n all (Err e) has h = λ ns long g. h.1 (ap length (numbers_once rest all ns has g) ∙ long)

given_once : (w : Word) (rest : List ℕ) {m n : Meaning} → Given w rest m → Given w rest n → m ≡ n
given_once (ListOf w) rest a b = a.1 ∙ ap (list w) (numbers_once rest a.0 b.0 a.2 b.2) ∙ sym b.1
given_once Text rest a b = a ∙ sym b
given_once Hex rest a b = a.1 ∙ ap text (gives_once steady_pair a.0 b.0 rest a.2 b.2) ∙ sym b.1
given_once (Alone w) rest a b = a.0 ∙ sym b.0
given_once (One w) rest a b = a.1 ∙ ap (λ l. one w (get_or l 0 0)) (numbers_once rest (a.0 ∷ []) (b.0 ∷ []) a.2 b.2) ∙ sym b.1
given_once Arc rest a b =
    a.2 ∙ ap (λ l. arc (get_or l 0 0) (get_or l 1 0)) (numbers_once rest (a.0 ∷ a.1 ∷ []) (b.0 ∷ b.1 ∷ []) a.3 b.3) ∙ sym b.2

-- a word that takes nothing, where nothing but spaces follows it
pub alone_given : {X : Type 0} {S : X → Type 0} (w : AloneWord) (rest : List ℕ) (o : Option X) (b : Bool) → MatchOption o (Blank rest) S → ((x : X) → S x → Blank rest → ⊥) → is_some o ≡ not b → MatchOption (then_some b (AloneCall w)) ((m : Meaning) → Given (Alone w) rest m → ⊥) (λ call. Given (Alone w) rest (meaning call))
alone_given w rest None true told apart e = (refl, told)
alone_given w rest None false told apart e = cc
alone_given w rest (Some x) true told apart e = cc
alone_given w rest (Some x) false told apart e = λ m g. apart x told g.1

-- lists of one number, and of two
pub just_one : (xs : List ℕ) → length xs ≡ 1 → xs ≡ get_or xs 0 0 ∷ []
just_one [] long = absurd (omega arith)
just_one (x ∷ []) long = refl
just_one (x ∷ y ∷ xs) long = absurd (omega arith)

pub just_two : (xs : List ℕ) → length xs ≡ 2 → xs ≡ get_or xs 0 0 ∷ get_or xs 1 0 ∷ []
just_two [] long = absurd (omega arith)
just_two (x ∷ []) long = absurd (omega arith)
just_two (x ∷ y ∷ []) long = refl
just_two (x ∷ y ∷ z ∷ xs) long = absurd (omega arith)

-- no word begins a comment
not_skipped : (w : Word) (tail : List ℕ) → Skipped (spelled w ++ tail) → ⊥
not_skipped (ListOf Formula) tail h = omega arith
not_skipped Text tail h = omega arith
not_skipped Hex tail h = omega arith
not_skipped (ListOf Table) tail h = omega arith
not_skipped (ListOf Rule) tail h = omega arith
not_skipped (Alone Ask) tail h = omega arith
not_skipped (One Initial) tail h = omega arith
not_skipped (One Facts) tail h = omega arith
not_skipped (One Arcs) tail h = omega arith
not_skipped Arc tail h = omega arith
not_skipped (Alone Help) tail h = omega arith

module _ {words : List Word} where
  -- what is behind the head that a line is cut at is what its call is given
  pub given_at : (w : Word) {line head rest : List ℕ} {m : Meaning} → Cut 32 line head rest → head ≡ spelled w → Says words line m → Given w rest m
  given_at w {line} {head} {rest} {m} cut e a =
      let same = cut_once a.cut cut in
      let is : a.word ≡ w = spelled_once (same.0 ∙ e) in
      subst (λ v. Given v rest m) is (subst (λ l. Given a.word l m) same.1 a.given)

  pub plain : (line : List ℕ) → Plain words line
  plain line = record {
    once = λ m n a b. given_once a.word a.rest a.given (given_at a.word a.cut refl b);
    apart = λ m a h. not_skipped a.word a.cut.tail (subst Skipped a.cut.joined h);
  }
