-- What a turn of a sweep keeps. Assumes nothing.
use Rattle.std.proofs.Common.{◌≡◌, ℕ, zero, suc, ◌+◌, ◌-◌, ◌<◌, ◌≤◌, Bool, true, false, ◌&&◌, ◌||◌, eqb, ◌≢◌, List, length, get_or, set, sym, refl, ap, ◌∙◌, ⊎_elim, arith, get_or-set_other, get_or-set_same}
use mir.Val.{bool_byte}
use Rattle.std.proofs.lemmas.Bool.{cases_eq}
use Rattle.meaning.specs.Truth.{sweep}
use Rattle.rows.specs.Rows.{on, SameBelow}

pub sweep_step : (f g : ℕ → Bool) (last : Bool) (m p : ℕ) → p < m → sweep f g last (m - p) p ≡ (g p || (f p && sweep f g last (m - (p + 1)) (p + 1)))
sweep_step f g last m p h = let n : m - p ≡ suc (m - (p + 1)) = omega arith in ap (λ d. sweep f g last d p) n

-- the places from p on are swept
pub record Swept (was table : List ℕ) (f g out m : ℕ) (last : Bool) (p : ℕ) (next : Bool) : Type 0 where
  pub next_is : next ≡ sweep (on was f) (on was g) last (m - p) p
  pub done : (q : ℕ) → p ≤ q → q < m → on table out q ≡ sweep (on was f) (on was g) last (m - q) q
  pub same : SameBelow was table out
  pub long : length table ≡ length was
  pub high : p ≤ m

pub swept_none : (was : List ℕ) (f g out m : ℕ) (last : Bool) → Swept was was f g out m last m last
swept_none was f g out m last = record {
  next_is = let n : m - m ≡ 0 = omega arith in ap (λ d. sweep (on was f) (on was g) last d m) (sym n);
  done = λ q lo hi. absurd (omega arith);
  same = λ k h. refl;
  long = refl;
  high = omega arith;
}

pub on_set_same : (t : List ℕ) (out p : ℕ) (b : Bool) (v : ℕ) → v ≡ bool_byte b → out + p < length t → on (set t (out + p) v) out p ≡ b
on_set_same t out p b v e h = ap (λ x. eqb x 1) (get_or-set_same t (out + p) v 0 h ∙ e) ∙ is b
  where
    is : (b : Bool) → eqb (bool_byte b) 1 ≡ b
    is true = refl
    is false = refl

module _ (was table : List ℕ) (f g out m : ℕ) (last : Bool) (p : ℕ) (next : Bool) (before : f + m ≤ out) (before' : g + m ≤ out) (room : out + m ≤ length was) (s : Swept was table f g out m last (p + 1) next) where
  -- one place more, written as v
  pub swept_more : (next' : Bool) (v : ℕ) → next' ≡ (on table g p || (on table f p && next)) → v ≡ bool_byte next' → Swept was (set table (out + p) v) f g out m last p next'
  swept_more next' v step e =
      let in_g : get_or table (g + p) 0 ≡ get_or was (g + p) 0 = s.same (g + p) (omega (arith, s.high)) in
      let in_f : get_or table (f + p) 0 ≡ get_or was (f + p) 0 = s.same (f + p) (omega (arith, s.high)) in
      let is : next' ≡ sweep (on was f) (on was g) last (m - p) p =
      step
      ∙ (λ i. eqb (in_g i) 1 || (eqb (in_f i) 1 && s.next_is i))
      ∙ sym (sweep_step (on was f) (on was g) last m p (omega (arith, s.high))) in
      record {
        next_is = is;
        done = λ q lo hi.
            ⊎_elim
            (λ eq. ap (on (set table (out + p) v) out) (sym eq) ∙ on_set_same table out p next' v e (omega (arith, s.long, s.high)) ∙ is ∙ ap (λ q. sweep (on was f) (on was g) last (m - q) q) eq)
            (λ ne. let far : out + q ≢ out + p = omega arith in ap (λ x. eqb x 1) (get_or-set_other table (out + p) (out + q) v 0 far) ∙ s.done q (omega arith) hi)
            (cases_eq p q);
        same = λ k h. let far : k ≢ out + p = omega arith in get_or-set_other table (out + p) k v 0 far ∙ s.same k h;
        long = lib.ListN.length-set table (out + p) v ∙ s.long;
        high = omega (arith, s.high);
      }

-- a sweep reads its rows only at places below m
pub sweep_same : (f g f' g' : ℕ → Bool) (last : Bool) (m : ℕ) → ((q : ℕ) → q < m → f q ≡ f' q) → ((q : ℕ) → q < m → g q ≡ g' q) → (d p : ℕ) → p + d ≤ m → sweep f g last d p ≡ sweep f' g' last d p
sweep_same f g f' g' last m ef eg zero p h = refl
sweep_same f g f' g' last m ef eg (suc d) p h =
    let rest = sweep_same f g f' g' last m ef eg d (p + 1) (omega arith) in
    let a = eg p (omega arith) in
    let b = ef p (omega arith) in
    λ i. a i || (b i && rest i)
