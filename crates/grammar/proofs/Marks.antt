-- The bytes that begin or join phrases. Assumes nothing.
use Rattle.std.proofs.Common.{◌≡◌, ℕ, ◌≤◌, true, false, cond, eqb, ltb, leb, List, [], ◌∷◌, ◌++◌, Some, None, Option, sym, refl, subst, append_assoc, arith}
use Rattle.std.proofs.lemmas.Bool.{cond_both, eqb-true, and_parts, leb-true, ltb-true}
use Rattle.grammar.specs.Phrases.{opening, letter, sign}
use Rattle.grammar.specs.Machine.{Mark, mark_truth, mark_pair, mark_none, mark_name, mark_prefix, mark_of, joint_of, digit}
use Rattle.grammar.specs.declared.Name.{Name}
use Rattle.grammar.specs.declared.Name.TheVariants.{Fact, Enabled, Taken}
use Rattle.grammar.specs.declared.Prefix.{Prefix}
use Rattle.grammar.specs.declared.Prefix.TheVariants.{Not, Next, Finally, Globally}
use Rattle.grammar.specs.declared.Joint.{Joint}
use Rattle.grammar.specs.declared.Joint.TheVariants.{Or, And, Implies, Until}

pub mark_opening : (a : Name) → mark_of (opening a) ≡ mark_name a
unfolding mark_of
mark_opening Fact = refl
mark_opening Enabled = refl
mark_opening Taken = refl

pub mark_letter : (x : Prefix) → mark_of (letter x) ≡ mark_prefix x
unfolding mark_of
mark_letter Not = refl
mark_letter Next = refl
mark_letter Finally = refl
mark_letter Globally = refl

pub mark_84 : mark_of 84 ≡ mark_truth
unfolding mark_of
mark_84 = refl

pub mark_40 : mark_of 40 ≡ mark_pair
unfolding mark_of
mark_40 = refl

pub joint_sign : (j : Joint) → joint_of (sign j) ≡ Some j
unfolding joint_of
joint_sign Or = refl
joint_sign And = refl
joint_sign Implies = refl
joint_sign Until = refl

-- a sign is no digit
pub sign_clear : (j : Joint) → digit (sign j) ≡ false
sign_clear Or = refl
sign_clear And = refl
sign_clear Implies = refl
sign_clear Until = refl

-- what holds of each byte that begins a phrase, and of c as a byte that begins none, holds of c
pub by_mark : (P : ℕ → Mark → Type 0) → P 84 mark_truth → ((a : Name) → P (opening a) (mark_name a)) → ((x : Prefix) → P (letter x) (mark_prefix x)) → P 40 mark_pair → (c : ℕ) → P c mark_none → P c (mark_of c)
unfolding mark_of
by_mark P pt pn px pp c none =
    at 84 mark_truth _ pt
    (at 112 (mark_name Fact) _ (pn Fact)
    (at 101 (mark_name Enabled) _ (pn Enabled)
    (at 91 (mark_name Taken) _ (pn Taken)
    (at 33 (mark_prefix Not) _ (px Not)
    (at 88 (mark_prefix Next) _ (px Next)
    (at 70 (mark_prefix Finally) _ (px Finally)
    (at 71 (mark_prefix Globally) _ (px Globally)
    (at 40 mark_pair _ pp none))))))))
  where
    at : (n : ℕ) (m r : Mark) → P n m → P c r → P c (cond (eqb c n) m r)
    at n m r h o = cond_both (eqb c n) m r (P c) (λ eq. subst (λ k. P k m) (sym (eqb-true c n eq)) h) (λ _. o)

-- the same of the signs
pub by_joint : (P : ℕ → Option Joint → Type 0) → ((j : Joint) → P (sign j) (Some j)) → (c : ℕ) → P c None → P c (joint_of c)
unfolding joint_of
by_joint P h c o = at Or _ (at And _ (at Implies _ (at Until _ o)))
  where
    at : (j : Joint) (r : Option Joint) → P c r → P c (cond (eqb c (sign j)) (Some j) r)
    at j r o = cond_both (eqb c (sign j)) (Some j) r (P c) (λ eq. subst (λ k. P k (Some j)) (sym (eqb-true c (sign j) eq)) (h j)) (λ _. o)

-- what follows is no digit
abbrev pub Clear : List ℕ → Type 0
Clear [] = Unit {0}
Clear (c ∷ s) = digit c ≡ false

-- a phrase of two and what follows it, part by part
pub shape : (q : ℕ) (s w v : List ℕ) → (s ++ q ∷ w ++ 41 ∷ []) ++ v ≡ s ++ q ∷ (w ++ 41 ∷ v)
shape q s w v = simp append_assoc

pub digit_bounds : (c : ℕ) → digit c ≡ true → (48 ≤ c) × (c ≤ 57)
digit_bounds c h =
    let z = and_parts (leb 48 c) (ltb c 58) h in
    let hi = ltb-true c 58 z.1 in
    (leb-true 48 c z.0, omega arith)
