-- A text has at most one reading: a function reads each phrase back. Assumes nothing.
use Rattle.std.proofs.Common.{◌≡◌, ℕ, zero, suc, ◌+◌, ◌-◌, ◌*◌, ◌/◌, ◌%◌, ◌<◌, ◌≤◌, true, cond, eqb, ltb, List, [], ◌∷◌, ◌++◌, length, Some, None, Option, sym, refl, ap, ◌∙◌, ⊎_elim, append_assoc, append-nil, arith, length-append}
use Rattle.std.proofs.lemmas.Bool.{cases_lt, cond-true, cond-false, lt-ltb, le-ltb}
use Rattle.std.proofs.lemmas.Bool.Decides.{nat_tests}
use Rattle.grammar.specs.Phrases.{Phrase, truth, named, prefixed, joined, digits, closing, sign, write, Within, loose, OneReading}
use Rattle.grammar.specs.Machine.{Mark, mark_truth, mark_pair, mark_none, mark_name, mark_prefix, mark_of, joint_of, digit}
use Rattle.grammar.specs.declared.Name.{Name}
use Rattle.grammar.specs.declared.Name.TheVariants.{Fact, Enabled, Taken}
use Rattle.grammar.specs.declared.Joint.{Joint}
use Rattle.grammar.proofs.Marks.{mark_84, mark_40, mark_opening, mark_letter, joint_sign, sign_clear, Clear, shape}

data Out : Type 0 where
  done : Phrase → List ℕ → Out
  none : Out

data Num : Type 0 where
  num : ℕ → List ℕ → Num
  nan : Num

abbrev number : List ℕ → Num
number [] = nan
number (a ∷ []) = num (a - 48) []
number (a ∷ c ∷ s) = cond (digit c) (num ((a - 48) * 10 + (c - 48)) s) (num (a - 48) (c ∷ s))

abbrev name : Name → Num → Out
name a nan = none
name Fact (num n s) = done (named Fact n) s
name Enabled (num n s) = done (named Enabled n) s
name Taken (num n []) = none
name Taken (num n (c ∷ s)) = cond (eqb c 93) (done (named Taken n) s) none

abbrev wrap : (Phrase → Phrase) → Out → Out
wrap k none = none
wrap k (done a s) = done (k a) s

abbrev shut : Option Joint → Phrase → Out → Out
shut None a o = none
shut (Some j) a none = none
shut (Some j) a (done c []) = none
shut (Some j) a (done c (k ∷ s)) = cond (eqb k 41) (done (joined j a c) s) none

abbrev pair : (List ℕ → Out) → Out → Out
pair rec none = none
pair rec (done a []) = none
pair rec (done a (c ∷ s)) = shut (joint_of c) a (rec s)

abbrev step : (List ℕ → Out) → Mark → List ℕ → Out
step rec mark_truth s = done truth s
step rec (mark_name a) s = name a (number s)
step rec (mark_prefix x) s = wrap (prefixed x) (rec s)
step rec mark_pair s = pair rec (rec s)
step rec mark_none s = none

abbrev parse : ℕ → List ℕ → Out
parse zero s = none
parse (suc n) [] = none
parse (suc n) (c ∷ s) = step (parse n) (mark_of c) s

number_back : (n : ℕ) (v : List ℕ) → n < 100 → Clear v → number (digits n ++ v) ≡ num n v
number_back n v h k = ⊎_elim one two (cases_lt n 10)
  where
    single : (v : List ℕ) → Clear v → number ((48 + n) ∷ v) ≡ num n v
    single [] k = let z : 48 + n - 48 ≡ n = omega arith in ap (λ i. num i []) z
    single (c ∷ s) k = let z : 48 + n - 48 ≡ n = omega arith in cond-false (digit c) _ _ k ∙ ap (λ i. num i (c ∷ s)) z

    one : n < 10 → number (digits n ++ v) ≡ num n v
    one lt = ap (λ d. number (d ++ v)) (cond-true (ltb n 10) _ _ (lt-ltb n 10 lt)) ∙ single v k

    low : digit (48 + n % 10) ≡ true
    low = grind (arith, nat_tests)

    value : (48 + n / 10 - 48) * 10 + (48 + n % 10 - 48) ≡ n
    value = omega arith

    two : 10 ≤ n → number (digits n ++ v) ≡ num n v
    two ge = ap (λ d. number (d ++ v)) (cond-false (ltb n 10) _ _ (le-ltb n 10 ge)) ∙ cond-true (digit (48 + n % 10)) _ _ low ∙ ap (λ i. num i v) value

name_back : (a : Name) (n : ℕ) (v : List ℕ) → n < 100 → Clear v → name a (number ((digits n ++ closing a) ++ v)) ≡ done (named a n) v
name_back Fact n v h k = ap (λ s. name Fact (number (s ++ v))) (append-nil (digits n)) ∙ ap (name Fact) (number_back n v h k)
name_back Enabled n v h k = ap (λ s. name Enabled (number (s ++ v))) (append-nil (digits n)) ∙ ap (name Enabled) (number_back n v h k)
name_back Taken n v h k = ap (λ s. name Taken (number s)) (append_assoc (digits n) (93 ∷ []) v) ∙ ap (name Taken) (number_back n (93 ∷ v) h refl)

lens : (q : ℕ) (s w : List ℕ) → length (s ++ q ∷ w ++ 41 ∷ []) ≡ length s + length w + 2
lens q s w = simp length-append (omega (arith, length-append w (41 ∷ [])))

read_back : (p : Phrase) (n : ℕ) (v : List ℕ) → Within loose p → Clear v → length (write p) ≤ n → parse n (write p ++ v) ≡ done p v
read_back truth zero v h k l = absurd (omega arith)
read_back truth (suc n) v h k l = ap (λ m. step (parse n) m v) mark_84
read_back (named a i) zero v h k l = absurd (omega arith)
read_back (named a i) (suc n) v h k l = ap (λ m. step (parse n) m ((digits i ++ closing a) ++ v)) (mark_opening a) ∙ name_back a i v h k
read_back (prefixed x p) zero v h k l = absurd (omega arith)
read_back (prefixed x p) (suc n) v h k l = ap (λ m. step (parse n) m (write p ++ v)) (mark_letter x) ∙ ap (wrap (prefixed x)) (read_back p n v h k (omega arith))
read_back (joined j p q) zero v h k l = absurd (omega arith)
read_back (joined j p q) (suc n) v h k l =
    let len = lens (sign j) (write p) (write q) in
    let tail = write q ++ 41 ∷ v in
    ap (λ m. step (parse n) m ((write p ++ sign j ∷ write q ++ 41 ∷ []) ++ v)) mark_40
    ∙ ap (λ s. pair (parse n) (parse n s)) (shape (sign j) (write p) (write q) v)
    ∙ ap (pair (parse n)) (read_back p n (sign j ∷ tail) h.0 (sign_clear j) (omega arith))
    ∙ ap (λ o. shut o p (parse n tail)) (joint_sign j)
    ∙ ap (shut (Some j) p) (read_back q n (41 ∷ v) h.1 refl (omega arith))

from : Out → Phrase
from none = truth
from (done p s) = p

pub one_reading : OneReading
unfolding from
one_reading p q hp hq eq =
    let n = length (write p) in
    let rp = read_back p n [] hp tt (omega arith) in
    let rq = read_back q n [] hq tt (omega (arith, ap length eq)) in
    ap from (sym rp ∙ ap (λ s. parse n (s ++ [])) eq ∙ rq)
