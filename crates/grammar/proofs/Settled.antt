-- A text has one answer: one refusal or one table. Assumes nothing.
use Rattle.std.proofs.Common.{◌≡◌, ℕ, ◌+◌, ◌-◌, ◌<◌, ◌≤◌, ◌⊎◌, List, [], ◌++◌, length, take, drop, sym, refl, ap, ◌∙◌, subst, inl, inr, ⊎_elim, append_assoc, append-nil, arith, take-append-drop, take_all, take-take}
use Rattle.std.proofs.lemmas.Bool.{cases_lt}
use Rattle.refusal.specs.Causes.{Gives}
use Rattle.refusal.specs.declared.Layer.TheVariants.{Text}
use Rattle.refusal.specs.declared.Refusal.{Refusal}
use Rattle.refusal.proofs.Same.{same}
use Rattle.formula.specs.Table.{table}
use Rattle.formula.specs.declared.entry.Entry.{Entry}
use Rattle.grammar.specs.Phrases.{Phrase, truth, named, prefixed, joined, mean, Within, loose, strict, Begins, Is}
use Rattle.grammar.specs.Texts.{Sized, Small, Granted, Refused, by_length, by_byte, by_end, by_range, by_table}
use Rattle.grammar.specs.declared.Name.TheVariants.{Fact, Enabled, Taken}
use Rattle.grammar.proofs.Reading.{one_reading}

looser : (p : Phrase) → Within strict p → Within loose p
looser truth h = tt
looser (named Fact n) h = omega arith
looser (named Enabled n) h = omega arith
looser (named Taken n) h = omega arith
looser (prefixed x p) h = looser p h
looser (joined j p q) h = (looser p h.0, looser q h.1)

loosely : {s : List ℕ} → Begins strict s → Begins loose s
loosely h = record { phrase = h.phrase; within = looser h.phrase h.within; rest = h.rest; text = h.text }

-- what a sentence begins with begins a sentence up to any place
shorter : (n m : ℕ) (xs : List ℕ) → m ≤ n → Begins strict (take n xs) → Begins strict (take m xs)
shorter n m xs le h = record {
  phrase = h.phrase;
  within = h.within;
  rest = drop m (take n xs) ++ h.rest;
  text = h.text ∙ ap (λ s. s ++ h.rest) (sym (take-append-drop m (take n xs))) ∙ append_assoc (take m (take n xs)) (drop m (take n xs)) h.rest ∙ ap (λ s. s ++ (drop m (take n xs) ++ h.rest)) (take-take m n xs le);
}

all : (xs : List ℕ) → Begins strict xs → Begins strict (take (length xs) xs)
all xs h = subst (Begins strict) (sym (take_all (length xs) xs (omega arith))) h

begun : (xs : List ℕ) → Is strict xs → Begins strict xs
begun xs h = record { phrase = h.phrase; within = h.within; rest = []; text = h.text ∙ sym (append-nil xs) }

-- how far a text begins a sentence, and how it goes on
record Reach (xs : List ℕ) (m : ℕ) : Type 0 where
  within : m ≤ length xs
  up_to : Begins strict (take m xs)
  no_more : m < length xs → Begins strict (take (m + 1) xs) → ⊥

one_reach : (xs : List ℕ) (m n : ℕ) → Reach xs m → Reach xs n → m ≡ n
one_reach xs m n a c =
    ⊎_elim
    (λ lt. absurd (a.no_more (omega (arith, c.within)) (shorter n (m + 1) xs (omega arith) c.up_to)))
    (λ ge. ⊎_elim (λ gt. absurd (c.no_more (omega (arith, a.within)) (shorter m (n + 1) xs (omega arith) a.up_to))) (λ le. omega arith) (cases_lt n m))
    (cases_lt m n)

-- why the text goes no further than m
data Why (xs : List ℕ) (m : ℕ) (r : Refusal) : Type 0 where
  stops : m < length xs → (Begins loose (take (m + 1) xs) → ⊥) → Gives r 22 Text m → Why xs m r
  ends : m ≡ length xs → (Is strict xs → ⊥) → Gives r 23 Text (length xs) → Why xs m r
  passes : m < length xs → Begins loose (take (m + 1) xs) → Gives r 24 Text (m - 1) → Why xs m r
  large : m ≡ length xs → (s : Is strict xs) → (Small (table (mean s.phrase)) → ⊥) → Gives r 25 Text 0 → Why xs m r

record Reached (xs : List ℕ) (r : Refusal) : Type 0 where
  m : ℕ
  sized : Sized xs
  reach : Reach xs m
  why : Why xs m r

whole_reach : (xs : List ℕ) → Begins strict xs → Reach xs (length xs)
whole_reach xs h = record { within = omega arith; up_to = all xs h; no_more = λ lt. absurd (omega arith) }

reached : (xs : List ℕ) (r : Refusal) → Refused xs r → ((Sized xs → ⊥) × Gives r 21 Text 0) ⊎ Reached xs r
reached xs r (by_length h g) = inl (h, g)
reached xs r (by_byte s i lt a c g) = inr (record { m = i; sized = s; reach = record { within = omega arith; up_to = a; no_more = λ _ q. c (loosely q) }; why = stops lt c g })
reached xs r (by_end s a c g) = inr (record { m = length xs; sized = s; reach = whole_reach xs a; why = ends refl c g })
reached xs r (by_range s i lt a c d g) =
    let back : i + 2 ≡ i + 1 + 1 = omega arith in
    let place : i ≡ i + 1 - 1 = omega arith in
    inr (record {
      m = i + 1;
      sized = s;
      reach = record { within = omega arith; up_to = a; no_more = λ _ q. d (subst (λ n. Begins strict (take n xs)) (sym back) q) };
      why = passes lt (subst (λ n. Begins loose (take n xs)) back c) (subst (Gives r 24 Text) place g);
    })
reached xs r (by_table s a c g) = inr (record { m = length xs; sized = s; reach = whole_reach xs (begun xs a); why = large refl a c g })

one_phrase : (xs : List ℕ) (a c : Is strict xs) → a.phrase ≡ c.phrase
one_phrase xs a c = one_reading a.phrase c.phrase (looser a.phrase a.within) (looser c.phrase c.within) (a.text ∙ sym c.text)

one_why : (xs : List ℕ) (m : ℕ) (r s : Refusal) → Why xs m r → Why xs m s → r ≡ s
one_why xs m r s (stops lt h g) (stops lt' h' g') = same g g'
one_why xs m r s (stops lt h g) (ends e' h' g') = absurd (omega arith)
one_why xs m r s (stops lt h g) (passes lt' h' g') = absurd (h h')
one_why xs m r s (stops lt h g) (large e' s' h' g') = absurd (omega arith)
one_why xs m r s (ends e₁ h g) (stops lt' h' g') = absurd (omega arith)
one_why xs m r s (ends e₁ h g) (ends e' h' g') = same g g'
one_why xs m r s (ends e₁ h g) (passes lt' h' g') = absurd (omega arith)
one_why xs m r s (ends e₁ h g) (large e' s' h' g') = absurd (h s')
one_why xs m r s (passes lt h g) (stops lt' h' g') = absurd (h' h)
one_why xs m r s (passes lt h g) (ends e' h' g') = absurd (omega arith)
one_why xs m r s (passes lt h g) (passes lt' h' g') = same g g'
one_why xs m r s (passes lt h g) (large e' s' h' g') = absurd (omega arith)
one_why xs m r s (large e₁ s₁ h g) (stops lt' h' g') = absurd (omega arith)
one_why xs m r s (large e₁ s₁ h g) (ends e' h' g') = absurd (h' s₁)
one_why xs m r s (large e₁ s₁ h g) (passes lt' h' g') = absurd (omega arith)
one_why xs m r s (large e₁ s₁ h g) (large e' s' h' g') = same g g'

no_grant : (xs : List ℕ) (m : ℕ) (r : Refusal) (es : List Entry) → m ≡ length xs → Granted xs es → Why xs m r → ⊥
no_grant xs m r es eq g (stops lt h q) = omega arith
no_grant xs m r es eq g (ends e₁ h q) = h g.says
no_grant xs m r es eq g (passes lt h q) = omega arith
no_grant xs m r es eq g (large e₁ s h q) = h (subst Small (sym g.table_is ∙ ap (λ w. table (mean w)) (one_phrase xs g.says s)) g.small)

pub one_refusal : (xs : List ℕ) (r s : Refusal) → Refused xs r → Refused xs s → r ≡ s
one_refusal xs r s a c =
    ⊎_elim
    (λ h. ⊎_elim (λ k. same h.1 k.1) (λ k. absurd (h.0 k.sized)) (reached xs s c))
    (λ h. ⊎_elim (λ k. absurd (k.0 h.sized)) (λ k. one_why xs h.m r s h.why (subst (λ m. Why xs m s) (one_reach xs k.m h.m k.reach h.reach) k.why)) (reached xs s c))
    (reached xs r a)

pub not_both : (xs : List ℕ) (es : List Entry) (r : Refusal) → Granted xs es → Refused xs r → ⊥
not_both xs es r c a =
    ⊎_elim
    (λ h. h.0 c.sized)
    (λ h. no_grant xs h.m r es (one_reach xs h.m (length xs) h.reach (whole_reach xs (begun xs c.says))) c h.why)
    (reached xs r a)
