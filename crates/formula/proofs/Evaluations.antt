-- The value of a formula from the values of its parts. Assumes nothing.
use Rattle.std.proofs.Common.{◌≡◌, ℕ, ◌+◌, ◌-◌, ◌<◌, ◌≤◌, Bool, true, not, ◌&&◌, ◌||◌, List, [], ◌∷◌, ◌++◌, length, get_or, take, sym, refl, ap, ◌∙◌, subst, arith, length-append}
use Rattle.std.proofs.lemmas.List.Sums.{sum_by_more, sum_by-append}
use Rattle.formula.specs.Atoms.{atom, value, width, bit_of}
use Rattle.formula.specs.Evaluated.{Evaluated}
use Rattle.formula.specs.Ltl.{Ltl, top, fact, enabled, taken, neg, or, next, until}
use Rattle.formula.specs.Stack.{sound, push, sub}
use Rattle.formula.specs.Table.{table, size, arity, elementary, weight}
use Rattle.formula.specs.declared.entry.Entry.{Entry}
use Rattle.formula.specs.declared.entry.Entry.TheVariants.{True, Not, Or, Next, Until}
use Rattle.formula.specs.declared.evaluate.Part.{Part}
use Rattle.formula.proofs.Parts.{first_end, with_none, with_one, with_two}

-- a formula has a bit for each elementary entry of its table
pub weight_table : (f : Ltl) → weight (table f) ≡ width f
weight_table top = refl
weight_table (fact p) = refl
weight_table (enabled t) = refl
weight_table (taken t) = refl
weight_table (neg f) = omega (arith, sum_by-append elementary (table f) (Not ∷ []), weight_table f)
weight_table (or f g) = omega (arith, sum_by-append elementary (table f ++ table g) (Or ∷ []), sum_by-append elementary (table f) (table g), weight_table f, weight_table g)
weight_table (next f) = omega (arith, sum_by-append elementary (table f) (Next ∷ []), weight_table f)
weight_table (until f g) = omega (arith, sum_by-append elementary (table f ++ table g) (Until ∷ []), sum_by-append elementary (table f) (table g), weight_table f, weight_table g)

-- the same of an equal formula
abbrev Worth : Ltl → ℕ → ℕ → Part → Type 0
Worth f count word p = (o : ℕ) × (count ≡ o + width f) × (p.holds ≡ value f (atom f o word)) × (p.entries ≡ size f) × (p.elementary ≡ width f)

evaluated : {es : List Entry} {i count word : ℕ} {p : Part} {f : Ltl} → sub es i ≡ f → Worth f count word p → Evaluated es i count word p
evaluated {es} {i} {count} {word} {p} eq w = let v = subst (λ f. Worth f count word p) (sym eq) w in record { offset = v.0; counted = v.1; value_is = v.2; size_is = v.3; width_is = v.4 }

abbrev pub made : Bool → ℕ → ℕ → Part
made b n k = record { holds = b; entries = n; elementary = k }

-- the same of a part that is made
pub made_is : {es : List Entry} {i count word : ℕ} {p q : Part} → p ≡ q → Evaluated es i count word q → Evaluated es i count word p
made_is {es} {i} {count} {word} eq v = subst (Evaluated es i count word) (sym eq) v

module _ (es : List Entry) (h : sound 0 es ≡ true) (i : ℕ) (within : i < length es) (count : ℕ) (k : count ≡ weight (take (i + 1) es)) where
  this : (e : Entry) → get_or es i True ≡ e → count ≡ weight (take i es) + elementary e
  this e eq = k ∙ sum_by_more elementary es i True within ∙ ap (λ e. weight (take i es) + elementary e) eq

  pub true_value : {word : ℕ} → get_or es i True ≡ True → Evaluated es i count word (made true 1 0)
  true_value eq = evaluated (with_none es h i within True eq top (λ s. refl)) (count, omega arith, refl, refl, refl)

  -- an entry that is elementary and has no part
  module _ (e : Entry) (eq : get_or es i True ≡ e) (one : elementary e ≡ 1) where
    pub some_count : 1 ≤ count
    some_count = omega (arith, this e eq)

    pub leaf_value : {word : ℕ} (f : Ltl) → ((s : List Ltl) → push e s ≡ f ∷ s) → ((o : ℕ) → value f (atom f o word) ≡ bit_of word o) → width f ≡ 1 → size f ≡ 1 → Evaluated es i count word (made (bit_of word (count - 1)) 1 1)
    leaf_value {word} f steps bit w s =
        let some = some_count in
        evaluated (with_none es h i within e eq f steps) (count - 1, omega arith, sym (bit (count - 1)), sym s, sym w)

  -- an entry with one part: what the part is evaluated with
  pub record Under (elem : ℕ) : Type 0 where
    pub some : 1 ≤ i
    pub enough : elem ≤ count
    pub counted : count - elem ≡ weight (take (i - 1 + 1) es)
    pub fits : size (sub es (i - 1)) ≤ i

  module _ (e : Entry) (eq : get_or es i True ≡ e) (op : Ltl → Ltl) (one : arity e ≡ 1) (steps : (f : Ltl) (s : List Ltl) → push e (f ∷ s) ≡ op f ∷ s) where
    pub under : Under (elementary e)
    under =
        let o = with_one es h i within e eq op one steps in
        let some = o.some in
        let back : i - 1 + 1 ≡ i = omega arith in
        record {
          some = some;
          enough = omega (arith, this e eq);
          counted = omega (arith, this e eq, ap (λ n. weight (take n es)) back);
          fits = o.fits;
        }

  pub not_value : {word : ℕ} {p : Part} → get_or es i True ≡ Not → Evaluated es (i - 1) count word p → Evaluated es i count word (made (not p.holds) (p.entries + 1) p.elementary)
  not_value {word} {p} eq v =
      let f = sub es (i - 1) in
      evaluated (with_one es h i within Not eq neg refl (λ f s. refl)).is
      (v.offset, v.counted, ap not v.value_is, omega (arith, v.size_is, length-append (table f) (Not ∷ [])), v.width_is)

  pub next_value : {word : ℕ} {p : Part} → get_or es i True ≡ Next → Evaluated es (i - 1) (count - 1) word p → Evaluated es i count word (made (bit_of word (count - 1)) (p.entries + 1) (p.elementary + 1))
  next_value {word} {p} eq v =
      let f = sub es (i - 1) in
      let u = under Next eq next refl (λ f s. refl) in
      evaluated (with_one es h i within Next eq next refl (λ f s. refl)).is
      (v.offset, omega (arith, v.counted, u.enough), ap (bit_of word) v.counted, omega (arith, v.size_is, length-append (table f) (Next ∷ [])), omega (arith, v.width_is))

  -- an entry with two parts: what they are evaluated with
  pub record Across (elem : ℕ) : Type 0 where
    pub some : 1 ≤ i
    pub room : size (sub es (i - 1)) + 1 ≤ i
    pub enough : elem + width (sub es (i - 1)) ≤ count
    pub last_counted : count - elem ≡ weight (take (i - 1 + 1) es)
    pub first_counted : count - elem - width (sub es (i - 1)) ≡ weight (take (first_end es i + 1) es)
    pub fits : size (sub es (first_end es i)) + size (sub es (i - 1)) ≤ i

  module _ (e : Entry) (eq : get_or es i True ≡ e) (op : Ltl → Ltl → Ltl) (two : arity e ≡ 2) (steps : (f g : Ltl) (s : List Ltl) → push e (g ∷ f ∷ s) ≡ op f g ∷ s) where
    pub across : Across (elementary e)
    across =
        let o = with_two es h i within e eq op two steps in
        let some = o.some in
        let back : i - 1 + 1 ≡ i = omega arith in
        let g = sub es (i - 1) in
        let front = take (first_end es i + 1) es in
        let split : weight (take i es) ≡ weight front + width g = ap weight o.before ∙ sum_by-append elementary front (table g) ∙ ap (λ n. weight front + n) (weight_table g) in
        record {
          some = some;
          room = o.room;
          enough = omega (arith, this e eq);
          last_counted = omega (arith, this e eq, ap (λ n. weight (take n es)) back);
          first_counted = omega (arith, this e eq);
          fits = o.fits;
        }

  -- the same, by what evaluating the last part answered
  pub record Behind (elem n m : ℕ) : Type 0 where
    pub room : n + 1 ≤ i
    pub enough : elem + m ≤ count
    pub counted : count - elem - m ≡ weight (take (i - 1 - n + 1) es)
    pub fits : size (sub es (i - 1 - n)) + n ≤ i

  pub behind : {elem c word : ℕ} {last : Part} → Across elem → Evaluated es (i - 1) c word last → Behind elem last.entries last.elementary
  behind {elem} {c} {word} {last} a v =
      let room = a.room in
      let n = v.size_is in
      let m = v.width_is in
      record {
        room = omega arith;
        enough = omega (arith, a.enough);
        counted = subst (λ k. count - elem - last.elementary ≡ weight (take (i - 1 - k + 1) es)) (sym n) (ap (λ k. count - elem - k) m ∙ a.first_counted);
        fits = subst (λ k. size (sub es (i - 1 - k)) + k ≤ i) (sym n) a.fits;
      }

  module _ {word : ℕ} {last first : Part} where
    pub or_value : get_or es i True ≡ Or → Evaluated es (i - 1) count word last → Evaluated es (i - 1 - last.entries) (count - last.elementary) word first → Evaluated es i count word (made (first.holds || last.holds) (first.entries + last.entries + 1) (first.elementary + last.elementary))
    or_value eq v w₀ =
        let f = sub es (first_end es i) in
        let g = sub es (i - 1) in
        let a = across Or eq or refl (λ f g s. refl) in
        let w = subst (λ k. Evaluated es (first_end es i) (count - k) word first) v.width_is (subst (λ k. Evaluated es (i - 1 - k) (count - last.elementary) word first) v.size_is w₀) in
        let at : v.offset ≡ w.offset + width f = omega (arith, v.counted, w.counted, a.enough) in
        evaluated (with_two es h i within Or eq or refl (λ f g s. refl)).is
        (w.offset, omega (arith, w.counted, a.enough), (λ j. w.value_is j || (v.value_is ∙ ap (λ o. value g (atom g o word)) at) j), omega (arith, v.size_is, w.size_is, length-append (table f ++ table g) (Or ∷ []), length-append (table f) (table g)), omega (arith, v.width_is, w.width_is))

    pub until_value : get_or es i True ≡ Until → Evaluated es (i - 1) (count - 1) word last → Evaluated es (i - 1 - last.entries) (count - 1 - last.elementary) word first → Evaluated es i count word (made (last.holds || (first.holds && bit_of word (count - 1))) (first.entries + last.entries + 1) (first.elementary + last.elementary + 1))
    until_value eq v w₀ =
        let f = sub es (first_end es i) in
        let g = sub es (i - 1) in
        let a = across Until eq until refl (λ f g s. refl) in
        let w = subst (λ k. Evaluated es (first_end es i) (count - 1 - k) word first) v.width_is (subst (λ k. Evaluated es (i - 1 - k) (count - 1 - last.elementary) word first) v.size_is w₀) in
        let at : v.offset ≡ w.offset + width f = omega (arith, v.counted, w.counted, a.enough) in
        let own : count - 1 ≡ w.offset + width f + width g = omega (arith, w.counted, a.enough) in
        evaluated (with_two es h i within Until eq until refl (λ f g s. refl)).is
        (w.offset, omega (arith, w.counted, a.enough), (λ j. (v.value_is ∙ ap (λ o. value g (atom g o word)) at) j || (w.value_is j && bit_of word (own j))), omega (arith, v.size_is, w.size_is, length-append (table f ++ table g) (Until ∷ []), length-append (table f) (table g)), omega (arith, v.width_is, w.width_is))
