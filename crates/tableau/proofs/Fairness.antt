-- Fairness of a whole formula by that of its parts, along a sequence, on a loop of it and on a round. Assumes nothing.
use Rattle.std.proofs.Common.{◌≡◌, ℕ, ◌+◌, ◌-◌, ◌<◌, ◌≤◌, true, not, ◌||◌, ltb, sym, refl, ap, ◌∙◌, ⊎_elim, arith}
use Rattle.std.proofs.lemmas.Bool.{cases_lt, cond-false, cond-true, le-ltb, lt-ltb}
use Rattle.formula.specs.Atoms.{Atom, value}
use Rattle.formula.specs.Ltl.{Ltl, or, until}
use Rattle.tableau.specs.Along.{untils, meets, Fair}
use Rattle.tableau.specs.Graphs.{Met}
use Rattle.tableau.specs.Lassos.{FairLoop}

or_left_meets : (f g : Ltl) (j : ℕ) (a : Atom (or f g)) → j < untils f → meets (or f g) j a ≡ meets f j a.0
or_left_meets f g j a h = cond-true (ltb j (untils f)) _ _ (lt-ltb j (untils f) h)

or_right_meets : (f g : Ltl) (j k : ℕ) (a : Atom (or f g)) → untils f + k ≡ j → meets (or f g) j a ≡ meets g k a.1
or_right_meets f g j k a e = cond-false (ltb j (untils f)) _ _ (le-ltb j (untils f) (omega arith)) ∙ ap (λ n. meets g n a.1) (omega arith)

until_left_meets : (f g : Ltl) (j : ℕ) (a : Atom (until f g)) → j < untils f → meets (until f g) j a ≡ meets f j a.1
until_left_meets f g j a h = cond-true (ltb j (untils f)) _ _ (lt-ltb j (untils f) h)

until_right_meets : (f g : Ltl) (j k : ℕ) (a : Atom (until f g)) → untils f + k ≡ j → k < untils g → meets (until f g) j a ≡ meets g k a.2
until_right_meets f g j k a e h =
    cond-false (ltb j (untils f)) _ _ (le-ltb j (untils f) (omega arith))
    ∙ (cond-true (ltb j (untils f + untils g)) _ _ (lt-ltb j (untils f + untils g) (omega arith)) ∙ ap (λ n. meets g n a.2) (omega arith))

until_own_meets : (f g : Ltl) (j : ℕ) (a : Atom (until f g)) → untils f + untils g ≡ j → meets (until f g) j a ≡ (not (value (until f g) a) || value g a.2)
until_own_meets f g j a e =
    cond-false (ltb j (untils f)) _ _ (le-ltb j (untils f) (omega arith))
    ∙ cond-false (ltb j (untils f + untils g)) _ _ (le-ltb j (untils f + untils g) (omega arith))

module _ (f g : Ltl) (a : ℕ → Atom (or f g)) where
  pub fair_or_left : Fair (or f g) a → Fair f (λ i. (a i).0)
  fair_or_left h j l i = let q = h j (omega arith) i in (q.0, q.1, sym (or_left_meets f g j (a q.0) l) ∙ q.2)

  pub fair_or_right : Fair (or f g) a → Fair g (λ i. (a i).1)
  fair_or_right h j l i = let q = h (untils f + j) (omega arith) i in (q.0, q.1, sym (or_right_meets f g (untils f + j) j (a q.0) refl) ∙ q.2)

  pub fair_or : Fair f (λ i. (a i).0) → Fair g (λ i. (a i).1) → Fair (or f g) a
  fair_or hf hg j l i =
      ⊎_elim
      (λ lo. let q = hf j lo i in (q.0, q.1, or_left_meets f g j (a q.0) lo ∙ q.2))
      (λ hi. let q = hg (j - untils f) (omega arith) i in (q.0, q.1, or_right_meets f g j (j - untils f) (a q.0) (omega arith) ∙ q.2))
      (cases_lt j (untils f))

module _ (f g : Ltl) (a : ℕ → Atom (until f g)) where
  pub fair_until_left : Fair (until f g) a → Fair f (λ i. (a i).1)
  fair_until_left h j l i = let q = h j (omega arith) i in (q.0, q.1, sym (until_left_meets f g j (a q.0) l) ∙ q.2)

  pub fair_until_right : Fair (until f g) a → Fair g (λ i. (a i).2)
  fair_until_right h j l i =
      let q = h (untils f + j) (omega arith) i in (q.0, q.1, sym (until_right_meets f g (untils f + j) j (a q.0) refl l) ∙ q.2)

  -- a U itself is again and again false or at its goal
  abbrev pub Own : Type 0
  Own = (i : ℕ) → (k : ℕ) × (i ≤ k) × ((not (value (until f g) (a k)) || value g (a k).2) ≡ true)

  pub fair_until_own : Fair (until f g) a → Own
  fair_until_own h i =
      let q = h (untils f + untils g) (omega arith) i in (q.0, q.1, sym (until_own_meets f g (untils f + untils g) (a q.0) refl) ∙ q.2)

  pub fair_until : Own → Fair f (λ i. (a i).1) → Fair g (λ i. (a i).2) → Fair (until f g) a
  fair_until own hf hg j l i =
      ⊎_elim
      (λ lo. let q = hf j lo i in (q.0, q.1, until_left_meets f g j (a q.0) lo ∙ q.2))
      (λ hi.
      ⊎_elim
      (λ mid. let q = hg (j - untils f) (omega arith) i in (q.0, q.1, until_right_meets f g j (j - untils f) (a q.0) (omega arith) (omega arith) ∙ q.2))
      (λ end. let q = own i in (q.0, q.1, until_own_meets f g j (a q.0) (omega arith) ∙ q.2))
      (cases_lt j (untils f + untils g)))
      (cases_lt j (untils f))

module _ (f : Ltl) where
  pub fair_moved : (b m b' m' : ℕ) (a a' : ℕ → Atom f) → ((i : ℕ) → b ≤ i → i ≤ m → (k : ℕ) × (b' ≤ k) × (k ≤ m') × (a' k ≡ a i)) → FairLoop f b m a → FairLoop f b' m' a'
  fair_moved b m b' m' a a' to h j l =
      let q = h j l in
      let w = to q.0 q.1 q.2 in
      (w.0, w.1, w.2, ap (meets f j) w.3 ∙ q.3)

  pub fair_found : (b b' m' : ℕ) (a a' : ℕ → Atom f) → ((i : ℕ) → b ≤ i → (k : ℕ) × (b' ≤ k) × (k ≤ m') × (a' k ≡ a i)) → Fair f a → FairLoop f b' m' a'
  fair_found b b' m' a a' to h j l =
      let q = h j l b in
      let w = to q.0 q.1 in
      (w.0, w.1, w.2, ap (meets f j) w.3 ∙ q.2)

  pub fair_spread : (b m : ℕ) (x : ℕ → Atom f) (p : ℕ → ℕ) → ((i k : ℕ) → b ≤ k → k ≤ m → (i' : ℕ) × (i ≤ i') × (p i' ≡ k)) → FairLoop f b m x → Fair f (λ i. x (p i))
  fair_spread b m x p to h j l i =
      let q = h j l in
      let w = to i q.0 q.1 q.2 in
      (w.0, w.1, ap (λ k. meets f j (x k)) w.2 ∙ q.3)

  pub met_loop : (b m : ℕ) (w a : ℕ → Atom f) → ((i : ℕ) → (k : ℕ) × (b ≤ k) × (k ≤ m) × (a k ≡ w i)) → Met f w → FairLoop f b m a
  met_loop b m w a to h j l =
      let q = h j l in
      let k = to q.0 in
      (k.0, k.1, k.2, ap (meets f j) k.3 ∙ q.1)

  pub loop_met : (b m : ℕ) (a w : ℕ → Atom f) → ((k : ℕ) → b ≤ k → k ≤ m → (i : ℕ) × (w i ≡ a k)) → FairLoop f b m a → Met f w
  loop_met b m a w to h j l =
      let q = h j l in
      let k = to q.0 q.1 q.2 in
      (k.0, ap (meets f j) k.1 ∙ q.3)

  pub met_same : (a b : ℕ → Atom f) → ((i : ℕ) → b i ≡ a i) → Met f a → Met f b
  met_same a b e h j l = let q = h j l in (q.0, ap (meets f j) (e q.0) ∙ q.1)
