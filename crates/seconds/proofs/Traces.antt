-- Open nodes and a free lasso behind them, as one sequence. Assumes nothing.
use Rattle.std.proofs.Common.{◌≡◌, ℕ, zero, suc, ◌+◌, ◌-◌, ◌<◌, ◌≤◌, true, false, sym, refl, ap, ◌∙◌, subst, arith}
use Rattle.formula.specs.Atoms.{Atom, value}
use Rattle.formula.specs.Ltl.{Ltl}
use Rattle.meaning.specs.Systems.{HasArc, Initial}
use Rattle.tableau.specs.Along.{Fits, Follows}
use Rattle.tableau.specs.Lassos.{FairLoop}
use Rattle.tableau.proofs.Fairness.{fair_moved}
use Rattle.seconds.specs.Free.{PossibleMove, PossibleEnd, FreeLasso, Continues}
use Rattle.seconds.specs.Known.{Known}

-- from a state with an atom, by arcs of open states, to the state c with the atom z
pub data Reaches (K : Known) (f : Ltl) (c : ℕ) (z : Atom f) : ℕ → Atom f → Type 0 where
  arrived : Reaches K f c z c z
  further : {s : ℕ} {a : Atom f} (t s' : ℕ) (a' : Atom f) → K.opened s ≡ true → HasArc K.system s t s' → Fits (K.system.facts s) (K.system.arcs s) f a → Follows f t a a' → Reaches K f c z s' a' → Reaches K f c z s a

-- from an initial state and an atom at which f is false, by arcs of open states, to the closed state c, and freely on
abbrev pub Doubt : Known → Ltl → ℕ → Type 0
Doubt K f c =
    (s : ℕ) × (a z : Atom f) × Initial K.system s × (value f a ≡ false) × Reaches K f c z s a × (K.opened c ≡ false) × Continues K.events f z

-- open places before j, the closed state c at j, free places from j to m, and then back to b, or an end
pub record Trace (K : Known) (f : Ltl) (c j m b : ℕ) (s t : ℕ → ℕ) (a : ℕ → Atom f) : Type 0 where
  pub upto : j ≤ m
  pub behind : j ≤ b
  pub low : b ≤ m + 1
  pub there : s j ≡ c
  pub opens : (i : ℕ) → i < j → (K.opened (s i) ≡ true) × HasArc K.system (s i) (t i) (s (suc i)) × Fits (K.system.facts (s i)) (K.system.arcs (s i)) f (a i)
  pub follows : (i : ℕ) → i < m → Follows f (t i) (a i) (a (suc i))
  pub moves : (i : ℕ) → j ≤ i → i < m → PossibleMove K.events f (t i) (a i)
  pub loops : b ≤ m → PossibleMove K.events f (t m) (a m) × Follows f (t m) (a m) (a b) × FairLoop f b m a
  pub stops : b ≡ m + 1 → PossibleEnd f (a m)

abbrev pub Joined : (K : Known) (f : Ltl) (c s : ℕ) → Atom f → Type 0
Joined K f c s a =
    (j m b : ℕ) × (ss ts : ℕ → ℕ) × (xs : ℕ → Atom f) × (ss 0 ≡ s) × (xs 0 ≡ a) × Trace K f c j m b ss ts xs

abbrev first : {A : Type 0} → A → (ℕ → A) → ℕ → A
first x g zero = x
first x g (suc i) = g i

module _ (K : Known) (f : Ltl) (c : ℕ) where
  start : (z : Atom f) → Continues K.events f z → Joined K f c c z
  start z (m, b, a, t, e, lasso) = (
    0,
    m,
    b,
    (λ _. c),
    t,
    a,
    refl,
    e,
    record {
      upto = omega arith;
      behind = omega arith;
      low = lasso.low;
      there = refl;
      opens = λ i h. absurd (omega arith);
      follows = λ i h. (lasso.moves i h).1;
      moves = λ i _ h. (lasso.moves i h).0;
      loops = lasso.loops;
      stops = lasso.stops;
    },
  )

  module _ (s t s' : ℕ) (a a' : Atom f) (o : K.opened s ≡ true) (arc : HasArc K.system s t s') (fit : Fits (K.system.facts s) (K.system.arcs s) f a) (fol : Follows f t a a') where
    more : Joined K f c s' a' → Joined K f c s a
    more (j, m, b, ss, ts, xs, es, ea, trace) = (
      suc j,
      suc m,
      suc b,
      first s ss,
      first t ts,
      first a xs,
      refl,
      refl,
      record {
        upto = omega (arith, trace.upto);
        behind = omega (arith, trace.behind);
        low = omega (arith, trace.low);
        there = trace.there;
        opens = opens;
        follows = follows;
        moves = moves;
        loops = λ h.
            let l = trace.loops (omega arith) in
            (l.0, l.1, fair_moved f b m (suc b) (suc m) xs (first a xs) (λ i lo hi. (suc i, omega arith, omega arith, refl)) l.2);
        stops = λ h. trace.stops (omega arith);
      },
    )
      where
        opens : (i : ℕ) → i < suc j → (K.opened (first s ss i) ≡ true) × HasArc K.system (first s ss i) (first t ts i) (first s ss (suc i)) × Fits (K.system.facts (first s ss i)) (K.system.arcs (first s ss i)) f (first a xs i)
        opens zero h = (o, subst (λ x. HasArc K.system s t x) (sym es) arc, fit)
        opens (suc i) h = trace.opens i (omega arith)

        follows : (i : ℕ) → i < suc m → Follows f (first t ts i) (first a xs i) (first a xs (suc i))
        follows zero h = subst (λ x. Follows f t a x) (sym ea) fol
        follows (suc i) h = trace.follows i (omega arith)

        moves : (i : ℕ) → suc j ≤ i → i < suc m → PossibleMove K.events f (first t ts i) (first a xs i)
        moves zero lo h = absurd (omega arith)
        moves (suc i) lo h = trace.moves i (omega arith) (omega arith)

pub joined : (K : Known) (f : Ltl) (c : ℕ) (z : Atom f) → Continues K.events f z → (s : ℕ) (a : Atom f) → Reaches K f c z s a → Joined K f c s a
joined K f c z k s a arrived = start K f c z k
joined K f c z k s a (further t s' a' o arc fit fol rest) = more K f c s t s' a a' o arc fit fol (joined K f c z k s' a' rest)

-- and apart again
abbrev pub shift : ℕ → ℕ → ℕ
shift j zero = j
shift j (suc i) = suc (shift j i)

pub shift_add : (j i : ℕ) → shift j i ≡ j + i
shift_add j zero = omega arith
shift_add j (suc i) = let e = shift_add j i in omega arith

module _ (K : Known) (f : Ltl) (c j m b : ℕ) (s t : ℕ → ℕ) (a : ℕ → Atom f) (trace : Trace K f c j m b s t a) where
  leads : (d i : ℕ) → i + d ≡ j → Reaches K f c (a j) (s i) (a i)
  leads zero i e =
      let q : i ≡ j = omega arith in
      subst (λ k. Reaches K f c (a j) (s k) (a k)) (sym q) (subst (λ x. Reaches K f c (a j) x (a j)) (sym trace.there) arrived)
  leads (suc d) i e =
      let o = trace.opens i (omega arith) in
      let up = trace.upto in
      further (t i) (s (suc i)) (a (suc i)) o.0 o.1 o.2 (trace.follows i (omega arith)) (leads d (suc i) (omega arith))

  pub leads_all : Reaches K f c (a j) (s 0) (a 0)
  leads_all = leads j 0 (omega arith)

  lasso : (m' b' : ℕ) → j + m' ≡ m → j + b' ≡ b → FreeLasso K.events f m' b' (λ i. a (shift j i)) (λ i. t (shift j i))
  lasso m' b' em eb =
      let am : shift j m' ≡ m = shift_add j m' ∙ em in
      let ab : shift j b' ≡ b = shift_add j b' ∙ eb in
      record {
        low = omega (arith, trace.low);
        moves = λ i h. let e = shift_add j i in (trace.moves (shift j i) (omega arith) (omega arith), trace.follows (shift j i) (omega arith));
        loops = λ h.
            let l = trace.loops (omega arith) in (
              subst (λ k. PossibleMove K.events f (t k) (a k)) (sym am) l.0,
              subst (λ k. Follows f (t (shift j m')) (a (shift j m')) (a k)) (sym ab) (subst (λ k. Follows f (t k) (a k) (a b)) (sym am) l.1),
              fair_moved f b m b' m' a (λ i. a (shift j i)) (λ i lo hi.
                  let e : shift j (i - j) ≡ i = shift_add j (i - j) ∙ omega (arith, trace.behind) in
                  (i - j, omega arith, omega arith, ap a e)) l.2,
            );
        stops = λ h. subst (λ k. PossibleEnd f (a k)) (sym am) (trace.stops (omega arith));
      }

  pub continues : Continues K.events f (a j)
  continues =
      let u = trace.upto in
      let v = trace.behind in
      (m - j, b - j, (λ i. a (shift j i)), (λ i. t (shift j i)), refl, lasso (m - j) (b - j) (omega arith) (omega arith))
