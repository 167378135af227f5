-- The open part as a graph of numbers: every node has one, and edges backward need no test that atoms fit. Assumes nothing.
use Rattle.std.proofs.Common.{◌≡◌, ℕ, suc, ◌+◌, ◌-◌, ◌*◌, ◌/◌, ◌%◌, ◌^◌, ◌<◌, Bool, true, List, length, get_or, sym, ap, ◌∙◌, subst, inl, inr, ⊎_elim, mod-lt, mod-eq_of_lt, div-lt_iff_lt-mul, div-add-mod', arith, pow_pos}
use native.Mathlib.Nat.{div-eq_of_lt, mul-add-div_right, mul-add-mod_self_right}
use Rattle.std.proofs.lemmas.Bool.{cases_lt}
use Rattle.formula.specs.Atoms.{Atom, value, width, atom}
use Rattle.formula.specs.Ltl.{Ltl}
use Rattle.meaning.specs.Runs.{Run, places, state_at, event_at, Closes, round, stuck, IsRun, Violates}
use Rattle.meaning.specs.Systems.{System, HasArc, Deadlock, Initial}
use Rattle.tableau.specs.Along.{Fits, Follows, Ends}
use Rattle.tableau.specs.Backward.{before, final}
use Rattle.tableau.specs.Claims.{OpenNumbers, NumbersRun}
use Rattle.tableau.specs.Graphs.{Onward, here, step}
use Rattle.tableau.specs.Numbers.{Lists, nodes, state_of, atom_of, StepsTo, OpenNumberEdge, OpenNumberStuck, OpenNumberStart, OpenNumberKept, OpenNumberDoubt, StepsAt, NumberLasso}
use Rattle.tableau.specs.Opens.{OverOpen, OpenNode, OpenEdge, OpenKept, OpenStart, OpenDoubt}
use Rattle.tableau.proofs.Coding.{coded, one_code}
use Rattle.tableau.proofs.Fairness.{met_same}
use Rattle.tableau.proofs.Lassoed.{lasso_violates}
use Rattle.tableau.proofs.Reverses.{backward, one_end}

module _ (M : System) (opened : ℕ → Bool) (book : List ℕ) (f : Ltl) (lists : Lists book opened) where
  abbrev P : ℕ
  P = 2 ^ width f

  abbrev Node : Type 0
  Node = ℕ × Atom f

  abbrev node_of : ℕ → Node
  node_of v = (state_of book f v, atom_of f v)

  pub open_of : (v : ℕ) → v < nodes book f → opened (state_of book f v) ≡ true
  open_of v h = lists.only (v / P) ((div-lt_iff_lt-mul (pow_pos (width f))).1 h)

  -- every open state with an atom has a number
  pub number : (s : ℕ) (a : Atom f) → opened s ≡ true → (v : ℕ) × (v < nodes book f) × (state_of book f v ≡ s) × (atom_of f v ≡ a)
  number s a o =
      let (i, hi, es) = lists.all s o in
      let (n, hn, ea) = coded f a in
      let q : (i * P + n) / P ≡ i = mul-add-div_right (pow_pos (width f)) i n ∙ (ap (λ k. i + k) (div-eq_of_lt hn) ∙ omega arith) in
      let m : (i * P + n) % P ≡ n = mul-add-mod_self_right i P n ∙ mod-eq_of_lt hn in (
        i * P + n,
        (div-lt_iff_lt-mul (pow_pos (width f))).0 (subst (λ k. k < length book) (sym q) hi),
        ap (λ k. get_or book k 0) q ∙ es,
        ap (atom f 0) m ∙ ea,
      )

  -- and only one
  pub one_number : (u v : ℕ) → u < nodes book f → v < nodes book f → state_of book f u ≡ state_of book f v → atom_of f u ≡ atom_of f v → u ≡ v
  one_number u v hu hv es ea =
      let some = pow_pos (width f) in
      let q = lists.once (u / P) (v / P) ((div-lt_iff_lt-mul some).1 hu) ((div-lt_iff_lt-mul some).1 hv) es in
      let m = one_code f (u % P) (v % P) (mod-lt u some) (mod-lt v some) ea in
      sym (div-add-mod' u P) ∙ ((λ i. q i * P + m i) ∙ div-add-mod' v P)

  abbrev Edge : Node → Node → Type 0
  Edge = OpenEdge M opened f

  abbrev NumberEdge : ℕ → ℕ → Type 0
  NumberEdge = OpenNumberEdge M book f

  -- u is the number of x
  abbrev pub Names : ℕ → Node → Type 0
  Names u x = (u < nodes book f) × (state_of book f u ≡ x.0) × (atom_of f u ≡ x.1)

  pub steps_to : (u : ℕ) (x : Node) → Names u x → OpenNode M opened f x → (t s : ℕ) (b : Atom f) → HasArc M x.0 t s → Follows f t x.1 b → StepsTo M book f u s b
  steps_to u x n o t s b arc fol =
      let back = λ (z : ℕ). HasArc M z t s × (atom_of f u ≡ before (M.facts z) (M.arcs z) t f b) in
      let h = subst back (sym n.1) (arc, n.2 ∙ (backward (M.facts x.0) (M.arcs x.0) t f x.1 b).0 (o.1, fol)) in
      (t, h.0, h.1)

  -- a node with a step fits its state
  pub steps_from : (u : ℕ) → u < nodes book f → (s : ℕ) (b : Atom f) → (h : StepsTo M book f u s b) → OpenNode M opened f (node_of u) × Follows f h.0 (atom_of f u) b
  steps_from u l s b h =
      let q = (backward (M.facts (state_of book f u)) (M.arcs (state_of book f u)) h.0 f (atom_of f u) b).1 h.2 in
      ((open_of u l, q.0), q.1)

  edge_to : (u v : ℕ) (x y : Node) → Names u x → Names v y → Edge x y → NumberEdge u v
  edge_to u v x y n k e = (
    n.0,
    k.0,
    steps_to u x n e.0 e.2.0 (state_of book f v) (atom_of f v)
        (subst (λ s. HasArc M x.0 e.2.0 s) (sym k.1) e.2.1)
        (subst (λ b. Follows f e.2.0 x.1 b) (sym k.2) e.2.2),
  )

  pub path_to : (y x : Node) → Onward Node Edge y x → (u v : ℕ) → Names u x → Names v y → Onward ℕ NumberEdge v u
  path_to y x here u v n k =
      subst (λ z. Onward ℕ NumberEdge v z) (one_number v u k.0 n.0 (k.1 ∙ sym n.1) (k.2 ∙ sym n.2)) here
  path_to y x (step x' e rest) u v n k =
      let (u', l, es, ea) = number x'.0 x'.1 e.1.0 in
      step u' (edge_to u u' x x' n (l, es, ea) e) (path_to y x' rest u' v (l, es, ea) k)

  edge_from : (u v : ℕ) → NumberEdge u v → OpenNode M opened f (node_of v) → Edge (node_of u) (node_of v)
  edge_from u v e o =
      let q = steps_from u e.0 (state_of book f v) (atom_of f v) e.2 in
      (q.0, o, (e.2.0, e.2.1, q.1))

  pub path_from : (v u : ℕ) → Onward ℕ NumberEdge v u → OpenNode M opened f (node_of v) → OpenNode M opened f (node_of u) × Onward Node Edge (node_of v) (node_of u)
  path_from v u here o = (o, here)
  path_from v u (step u' e rest) o =
      let q = path_from v u' rest o in
      let h = edge_from u u' e q.0 in
      (h.0, step (node_of u') h q.1)

  kept_to : (u : ℕ) (x : Node) → Names u x → OpenKept M opened f x → OpenNumberKept M book f u
  kept_to u x n (inl (y, path, end)) =
      let (v, l, es, ea) = number y.0 y.1 end.0.0 in
      let stop = λ (z : ℕ). Deadlock M z × (atom_of f v ≡ final (M.facts z) (M.arcs z) f) in
      let h = subst stop (sym es) (end.1, ea ∙ (one_end (M.facts y.0) (M.arcs y.0) f y.1).0 (end.0.1, end.2)) in
      inl (v, path_to y x path u v n (l, es, ea), (l, h.0, h.1))
  kept_to u x n (inr (w, p, path, ring, met)) =
      inr (
        (λ i. (named i).0),
        p,
        path_to (w 0) x path u (named 0).0 n (name 0),
        record {
          period = ring.period;
          again = λ i. same_name (named (i + p)).0 (named i).0 (w (i + p)) (w i) (name (i + p)) (name i) (ring.again i);
          arcs = λ i. edge_to (named i).0 (named (suc i)).0 (w i) (w (suc i)) (name i) (name (suc i)) (ring.arcs i);
        },
        met_same f (λ i. (w i).1) (λ i. atom_of f (named i).0) (λ i. (name i).2) met,
      )
    where
      named : (i : ℕ) → (v : ℕ) × (v < nodes book f) × (state_of book f v ≡ (w i).0) × (atom_of f v ≡ (w i).1)
      named i = number (w i).0 (w i).1 (ring.arcs i).0.0

      name : (i : ℕ) → Names (named i).0 (w i)
      name i = ((named i).1, (named i).2, (named i).3)

      same_name : (u v : ℕ) (x y : Node) → Names u x → Names v y → x ≡ y → u ≡ v
      same_name u v x y n k e =
          one_number u v n.0 k.0 (n.1 ∙ (ap (λ (z : Node). z.0) e ∙ sym k.1)) (n.2 ∙ (ap (λ (z : Node). z.1) e ∙ sym k.2))

  kept_from : (u : ℕ) → OpenNumberKept M book f u → OpenNode M opened f (node_of u) × OpenKept M opened f (node_of u)
  kept_from u (inl (v, path, (l, dead, e))) =
      let q = (one_end (M.facts (state_of book f v)) (M.arcs (state_of book f v)) f (atom_of f v)).1 e in
      let o : OpenNode M opened f (node_of v) = (open_of v l, q.0) in
      let h = path_from v u path o in
      (h.0, inl (node_of v, h.1, (o, dead, q.1)))
  kept_from u (inr (w, p, path, ring, met)) =
      let h = path_from (w 0) u path (node 0) in (
        h.0,
        inr (
          (λ i. node_of (w i)),
          p,
          h.1,
          record {
            period = ring.period;
            again = λ i. ap node_of (ring.again i);
            arcs = λ i. edge_from (w i) (w (suc i)) (ring.arcs i) (node (suc i));
          },
          met,
        ),
      )
    where
      node : (i : ℕ) → OpenNode M opened f (node_of (w i))
      node i = (steps_from (w i) (ring.arcs i).0 (state_of book f (w (suc i))) (atom_of f (w (suc i))) (ring.arcs i).2).0

  pub start_to : (u : ℕ) (x : Node) → Names u x → OpenStart M opened f x → OpenNumberStart M book f u
  start_to u x n s = (n.0, subst (λ z. Initial M z) (sym n.1) s.1, ap (value f) n.2 ∙ s.2)

  doubt_to : OpenDoubt M opened f → OpenNumberDoubt M book f
  doubt_to (x, s, k) =
      let (v, l, es, ea) = number x.0 x.1 s.0.0 in
      (v, start_to v x (l, es, ea) s, kept_to v x (l, es, ea) k)

  doubt_from : OpenNumberDoubt M book f → OpenDoubt M opened f
  doubt_from (v, s, k) = let q = kept_from v k in (node_of v, (q.0, s.1, s.2), q.1)

pub open_numbers : OpenNumbers
open_numbers M opened book f lists = (doubt_to M opened book f lists, doubt_from M opened book f lists)

module _ (M : System) (opened : ℕ → Bool) (book : List ℕ) (f : Ltl) (lists : Lists book opened) (r : Run) (n : ℕ → ℕ) (l : NumberLasso M book f r n) where
  -- what an arc from place i gives
  from_step : (i k : ℕ) → StepsAt M book f r n i k → Fits (M.facts (state_at r i)) (M.arcs (state_at r i)) f (atom_of f (n i)) × Follows f (event_at r i) (atom_of f (n i)) (atom_of f (n k))
  from_step i k s = (backward (M.facts (state_at r i)) (M.arcs (state_at r i)) (event_at r i) f (atom_of f (n i)) (atom_of f (n k))).1 s.1

  abbrev last : ℕ
  last = places r - 1

  abbrev Last : Type 0
  Last = Fits (M.facts (state_at r last)) (M.arcs (state_at r last)) f (atom_of f (n last))

  at_last : state_of book f (n last) ≡ state_at r last
  at_last = let some = l.some in sym (l.states last (omega arith))

  from_stop : OpenNumberStuck M book f (n last) → Deadlock M (state_at r last) × Last × Ends f (atom_of f (n last))
  from_stop s =
      let q = subst (λ z. Deadlock M z × (atom_of f (n last) ≡ final (M.facts z) (M.arcs z) f)) at_last (s.1, s.2) in
      let h = (one_end (M.facts (state_at r last)) (M.arcs (state_at r last)) f (atom_of f (n last))).1 q.1 in
      (q.0, h.0, h.1)

  fits_last : Last
  fits_last =
      let low = l.low in
      ⊎_elim
      (λ loop. (from_step last r.back (l.turns loop).0).0)
      (λ line. (from_stop (l.stops (omega arith)).0).1)
      (cases_lt r.back (places r))

  closes_r : Closes M r
  closes_r =
      let low = l.low in
      ⊎_elim
      (λ loop. round loop (l.turns loop).0.0)
      (λ line. let s = l.stops (omega arith) in stuck (omega arith) (from_stop s.0).0 s.1)
      (cases_lt r.back (places r))

  pub run_numbers : OpenNumberStart M book f (n 0) → IsRun M r × OverOpen opened r × Violates M r f
  run_numbers start =
      let some = l.some in (
        record {
          some = some;
          parallel = l.parallel;
          starts = subst (λ z. Initial M z) (sym (l.states 0 some)) start.1;
          steps = λ i h. (l.steps i h).0;
          closes = closes_r;
        },
        (λ i h. subst (λ z. opened z ≡ true) (sym (l.states i h)) (open_of M opened book f lists (n i) (l.numbers i h))),
        lasso_violates M r some l.low f (λ i. atom_of f (n i)) (record {
          fits = λ p h.
              ⊎_elim
              (λ mid. (from_step p (p + 1) (l.steps p mid)).0)
              (λ end. let e : last ≡ p = omega arith in subst (λ k. Fits (M.facts (state_at r k)) (M.arcs (state_at r k)) f (atom_of f (n k))) e fits_last)
              (cases_lt (p + 1) (places r));
          steps = λ p h. (from_step p (p + 1) (l.steps p h)).1;
          turns = λ h. (from_step last r.back (l.turns h).0).1;
          fair = λ h. (l.turns h).1;
          stops = λ h. (from_stop (l.stops h).0).2;
        }) start.2,
      )

pub numbers_run : NumbersRun
numbers_run M opened book f lists r n l start = run_numbers M opened book f lists r n l start
