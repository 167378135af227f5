-- Bytes are cut in one way alone. Assumes nothing.
use Rattle.std.proofs.Common.{◌≡◌, ℕ, suc, ◌+◌, ◌-◌, ◌<◌, ◌≤◌, ◌⊎◌, List, [], ◌∷◌, ◌++◌, length, get_or, take, drop, sym, refl, ap, ◌∙◌, subst, inl, inr, append_assoc, arith, length-append, take-append-drop, length-take-le, get_or-take}
use Rattle.std.proofs.ByRecursion.{All-from_get_or, All-push}
use Rattle.std.proofs.lemmas.List.{take_all, drop_more, drop_all, length-drop}
use Rattle.script.specs.Words.{Blank, Without, Dark, Behind, Skips, Cut, First}

-- a list with a first element is not empty
pub some_none : {b : ℕ} {bs : List ℕ} → b ∷ bs ≡ [] → ⊥
some_none e = let z : ◌≡◌ {A = ℕ} 0 1 = cc in omega arith

module _ (z : ℕ) where
  -- what comes behind the first z is one list
  same_behind : (x p q : List ℕ) → Behind z x p → Behind z x q → p ≡ q
  same_behind [] p q a b = a ∙ sym b
  same_behind (c ∷ x) p q a b = a.1 ∙ sym b.1

  -- two fronts of one list that both end at its first z are the same
  same_front : (u v x y p q : List ℕ) → Without z u → Without z v → Behind z x p → Behind z y q → u ++ x ≡ v ++ y → (u ≡ v) × (p ≡ q)
  same_front [] [] x y p q fu fv bx by e = (refl, same_behind y p q (subst (λ l. Behind z l p) e bx) by)
  same_front [] (c ∷ v) [] y p q fu fv bx by e = absurd (some_none (sym e))
  same_front [] (c ∷ v) (b ∷ x) y p q fu fv bx by e = absurd (fv.0 (let h : c ≡ b = cc in h ∙ bx.0))
  same_front (b ∷ u) [] x [] p q fu fv bx by e = absurd (some_none e)
  same_front (b ∷ u) [] x (c ∷ y) p q fu fv bx by e = absurd (fu.0 (let h : b ≡ c = cc in h ∙ by.0))
  same_front (b ∷ u) (c ∷ v) x y p q fu fv bx by e =
      let heads : b ≡ c = cc in
      let tails : u ++ x ≡ v ++ y = cc in
      let more = same_front u v x y p q fu.1 fv.1 bx by tails in
      ((λ i. heads i ∷ more.0 i), more.1)

  -- what is behind is no longer
  behind_length : (x p : List ℕ) → Behind z x p → length p ≤ length x
  behind_length [] p h = omega (arith, ap length h)
  behind_length (b ∷ x) p h = omega (arith, ap length h.1)

pub cut_once : {z : ℕ} {bs u v p q : List ℕ} → Cut z bs u p → Cut z bs v q → (u ≡ v) × (p ≡ q)
cut_once {z} {bs} {u} {v} {p} {q} a b = same_front z u v a.tail b.tail p q a.solid b.solid a.behind b.behind (sym a.joined ∙ b.joined)

-- a cut leaves less, unless there was nothing
pub cut_length : {z : ℕ} {bs u p : List ℕ} → Cut z bs u p → 0 < length bs → length p < length bs
cut_length {z} {bs} {u} {p} a some = omega (arith, ap length a.joined ∙ length-append u a.tail, go a.tail p a.behind)
  where
    go : (x p : List ℕ) → Behind z x p → (length p < length x) ⊎ (length p ≡ 0)
    go [] p h = inr (omega (arith, ap length h))
    go (b ∷ x) p h = inl (omega (arith, ap length h.1))

-- a list cut at its first z
pub cut_at : (z : ℕ) (bs front tail rest : List ℕ) (n : ℕ) → n ≤ length bs → ((k : ℕ) → k < n → get_or bs k 0 ≡ z → ⊥) → front ≡ take n bs → tail ≡ drop n bs → Behind z tail rest → Cut z bs front rest
cut_at z bs front tail rest n within solid before back behind = record {
  tail = tail;
  joined = sym ((λ i. before i ++ back i) ∙ take-append-drop n bs);
  solid = subst (Without z) (sym before) (All-from_get_or (λ b. b ≡ z → ⊥) (take n bs) 0 (λ i lt. let less : i < n = omega (arith, length-take-le n bs within) in rw get_or-take (solid i less)));
  behind = behind;
}

-- at the first z, and where there is none
pub cut_found : (z : ℕ) (bs : List ℕ) (n : ℕ) → n < length bs → ((k : ℕ) → k < n → get_or bs k 0 ≡ z → ⊥) → get_or bs n 0 ≡ z → Cut z bs (take n bs) (take (length bs - (n + 1)) (drop (n + 1) bs))
cut_found z bs n within solid here =
    let rest : take (length bs - (n + 1)) (drop (n + 1) bs) ≡ drop (n + 1) bs = take_all _ _ (omega (arith, length-drop (n + 1) bs)) in
    cut_at z bs _ (drop n bs) _ n (omega arith) solid refl refl (subst (λ l. Behind z l (take (length bs - (n + 1)) (drop (n + 1) bs))) (sym (drop_more bs n 0 within)) (here, rest))

pub cut_none : (z : ℕ) (bs : List ℕ) → ((k : ℕ) → k < length bs → get_or bs k 0 ≡ z → ⊥) → Cut z bs bs []
cut_none z bs solid =
    cut_at z bs bs [] [] (length bs) (omega arith) solid (sym (take_all (length bs) bs (omega arith))) (sym (drop_all (length bs) bs (omega arith))) refl

-- behind the spaces at the front of one list comes one list
same_gap : (g h x y : List ℕ) → Blank g → Blank h → Dark x → Dark y → g ++ x ≡ h ++ y → x ≡ y
same_gap [] [] x y bg bh dx dy e = e
same_gap [] (c ∷ h) [] y bg bh dx dy e = absurd (some_none (sym e))
same_gap [] (c ∷ h) (b ∷ x) y bg bh dx dy e = absurd (dx (let k : b ≡ c = cc in k ∙ bh.0))
same_gap (b ∷ g) [] x [] bg bh dx dy e = absurd (some_none e)
same_gap (b ∷ g) [] x (c ∷ y) bg bh dx dy e = absurd (dy (let k : c ≡ b = cc in k ∙ bg.0))
same_gap (b ∷ g) (c ∷ h) x y bg bh dx dy e = let tails : g ++ x ≡ h ++ y = cc in same_gap g h x y bg.1 bh.1 dx dy tails

pub skips_once : {bs x y : List ℕ} → Skips bs x → Skips bs y → x ≡ y
skips_once {bs} {x} {y} a b = same_gap a.gap b.gap x y a.blank b.blank a.dark b.dark (sym a.joined ∙ b.joined)

pub first_once : {bs u v p q : List ℕ} → First bs u p → First bs v q → (u ≡ v) × (p ≡ q)
first_once {bs} {u} {v} {p} {q} a b = cut_once a.ends (subst (λ l. Cut 32 l v q) (sym (skips_once a.skips b.skips)) b.ends)

-- spaces alone have nothing behind them
pub blank_skips : {bs x : List ℕ} → Blank bs → Skips bs x → x ≡ []
blank_skips {bs} {x} h s = go s.gap x s.dark (subst Blank s.joined h)
  where
    go : (g x : List ℕ) → Dark x → Blank (g ++ x) → x ≡ []
    go [] [] d k = refl
    go [] (b ∷ x) d k = absurd (d k.0)
    go (b ∷ g) x d k = go g x d k.1

-- where nothing is behind the spaces, there are spaces alone
pub skips_blank : {bs : List ℕ} → Skips bs [] → Blank bs
skips_blank {bs} s = subst Blank (sym s.joined) (go s.gap s.blank)
  where
    go : (g : List ℕ) → Blank g → Blank (g ++ [])
    go [] k = tt
    go (b ∷ g) k = (k.0, go g k.1)

pub first_not_blank : {bs u p : List ℕ} → First bs u p → Blank bs → ⊥
first_not_blank {bs} {u} {p} a h = go u a.ends.tail a.some (sym a.ends.joined ∙ blank_skips h a.skips)
  where
    go : (u x : List ℕ) → 0 < length u → u ++ x ≡ [] → ⊥
    go [] x k e = omega arith
    go (b ∷ u) x k e = some_none e

-- what is left is no longer
pub skips_length : {bs x : List ℕ} → Skips bs x → length x ≤ length bs
skips_length {bs} {x} s = omega (arith, ap length s.joined ∙ length-append s.gap x)

pub first_length : {bs u p : List ℕ} → First bs u p → length p < length bs
first_length {bs} {u} {p} a =
    omega (arith, skips_length a.skips, ap length a.ends.joined ∙ length-append u a.ends.tail, behind_length 32 a.ends.tail p a.ends.behind, a.some)

-- a list by its first element, and by its first two
pub by_one : (bs : List ℕ) (b : ℕ) → 0 < length bs → get_or bs 0 0 ≡ b → bs ≡ b ∷ take (length bs - 1) (drop 1 bs)
by_one [] b some e = absurd (omega arith)
by_one (x ∷ bs) b some e = let within : length bs ≤ suc (length bs) - 1 = omega arith in λ i. e i ∷ sym (take_all (suc (length bs) - 1) bs within) i

pub by_two : (bs : List ℕ) → 1 < length bs → bs ≡ get_or bs 0 0 ∷ get_or bs 1 0 ∷ take (length bs - 2) (drop 2 bs)
by_two [] some = absurd (omega arith)
by_two (x ∷ []) some = absurd (omega arith)
by_two (x ∷ y ∷ bs) some = let within : length bs ≤ suc (suc (length bs)) - 2 = omega arith in ap (λ l. x ∷ y ∷ l) (sym (take_all (suc (suc (length bs)) - 2) bs within))

-- bs up to rest is spaces
abbrev pub Passed : List ℕ → List ℕ → Type 0
Passed bs rest = (gap : List ℕ) × (bs ≡ gap ++ rest) × Blank gap

-- one more space is passed
pub skip_one : {bs rest after : List ℕ} → Passed bs rest → rest ≡ 32 ∷ after → Passed bs after
skip_one {bs} {rest} {after} old e = (
  old.0 ++ 32 ∷ [],
  old.1 ∙ ap (λ l. old.0 ++ l) e ∙ sym (append_assoc old.0 (32 ∷ []) after),
  All-push (λ b. b ≡ 32) old.0 32 old.2 refl,
)

-- a list that begins with no space begins with a word
pub solid_some : (bs word rest : List ℕ) → 0 < length bs → Dark bs → Cut 32 bs word rest → 0 < length word
solid_some bs word rest some dark a = go bs word a.tail some dark a.joined a.behind
  where
    go : (bs word tail : List ℕ) → 0 < length bs → Dark bs → bs ≡ word ++ tail → Behind 32 tail rest → 0 < length word
    go [] word tail some dark e h = absurd (omega arith)
    go (b ∷ bs) [] [] some dark e h = absurd (some_none e)
    go (b ∷ bs) [] (c ∷ tail) some dark e h = absurd (dark (let k : b ≡ c = cc in k ∙ h.0))
    go (b ∷ bs) (c ∷ word) tail some dark e h = omega arith
