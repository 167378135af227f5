-- What the test of a run says over the book, it says over the plant. Relies on meaning's and refusal's theorems.
use Rattle.std.proofs.Common.{◌≡◌, ℕ, ◌+◌, ◌-◌, ◌<◌, ◌≤◌, Bool, true, false, List, length, get_or, is_some, Some, None, Decides, Option, sym, refl, ap, ◌∙◌, subst, inl, inr, ⊎_elim, arith}
use Rattle.std.specs.Option.{ForSome}
use Rattle.std.proofs.lemmas.Bool.{cases_Bool, cases_lt}
use Rattle.refusal.specs.declared.Refusal.{Refusal}
use Rattle.refusal.specs.Rows.{Clear, First, Lowest}
use Rattle.refusal.proofs.Settled.{AllAlike, first_alike, clear_alike, lowest_alike, no_lowest}
use Rattle.formula.specs.Ltl.{Ltl}
use Rattle.formula.specs.declared.entry.Entry.{Entry}
use Rattle.meaning.specs.declared.Arc.{Arc}
use Rattle.meaning.specs.Systems.{System, HasArc}
use Rattle.meaning.specs.Runs.{Run, places, state_at, event_at, place, unroll, Closes, round, stuck, Satisfies}
use Rattle.meaning.proofs.Agree.{Same, turned, agree}
use Rattle.meaning.proofs.Places.{inside}
use Rattle.meaning.proofs.Examples.{start as starts}
use Rattle.plant.specs.Model.{Model}
use Rattle.book.specs.Records.{Saying, says}
use Rattle.book.specs.Books.{book_of, arcs_in}
use Rattle.book.specs.declared.book.Book.{Book}
use Rattle.runs.specs.Tests.{Wrong, start, arc, ending, Bad, rows}
use Rattle.runs.specs.Known.{facts_in, opens, view}
use Rattle.session.specs.History.{Turn, is_open}
use Rattle.session.specs.Law.{Exact, Kept}

-- of what is said, and is the plant's, facts and arcs are the plant's
said_same : (M : System) (s : ℕ) (o : Option Saying) → is_some o ≡ true → ForSome o (λ (said : Saying). said ≡ says M s) → (facts_in o ≡ M.facts s) × (arcs_in o ≡ M.arcs s)
said_same M s None known is = cc
said_same M s (Some said) known is = (ap (λ (x : Saying). x.facts) (is said refl), ap (λ (x : Saying). x.arcs) (is said refl))

-- two systems with the same initial states, of which one says what the other does of every open state
record Tells (opened : ℕ → Bool) (M N : System) : Type 0 where
  initial : M.initial ≡ N.initial
  facts : (s : ℕ) → opened s ≡ true → M.facts s ≡ N.facts s
  arcs : (s : ℕ) → opened s ≡ true → M.arcs s ≡ N.arcs s

back : {opened : ℕ → Bool} {M N : System} → Tells opened M N → Tells opened N M
back t = record { initial = sym t.initial; facts = λ s is. sym (t.facts s is); arcs = λ s is. sym (t.arcs s is) }

module _ (opened : ℕ → Bool) (M N : System) (tells : Tells opened M N) (r : Run) where
  -- the end of the run, where its last state is open
  closes : opened (state_at r (places r - 1)) ≡ true → Closes N r → Closes M r
  closes is (round lt has) =
      round lt (subst (λ (xs : List Arc). HasArc (record { facts = M.facts; arcs = λ _. xs; initial = M.initial }) 0 (event_at r (places r - 1)) (state_at r r.back)) (sym (tells.arcs (state_at r (places r - 1)) is)) has)
  closes is (stuck e dead event) = stuck e (ap length (tells.arcs (state_at r (places r - 1)) is) ∙ dead) event

  bad_wrong : (i : ℕ) → Wrong M r i → Bad opened N r i
  bad_wrong i (start e none) = inr (start e (λ initial. none (subst (λ (xs : List ℕ). (j : ℕ) × (j < length xs) × (get_or xs j 0 ≡ state_at r 0)) (sym tells.initial) initial)))
  bad_wrong i (arc lt none) =
      ⊎_elim
      (λ (is : opened (state_at r i) ≡ true).
      inr (arc lt (λ has. none (subst (λ (xs : List Arc). HasArc (record { facts = M.facts; arcs = λ _. xs; initial = M.initial }) 0 (event_at r i) (state_at r (i + 1))) (sym (tells.arcs (state_at r i) is)) has))))
      (λ (is : opened (state_at r i) ≡ false). inl (omega (arith, lt), is))
      (cases_Bool (opened (state_at r i)))
  bad_wrong i (ending e none) =
      ⊎_elim
      (λ (is : opened (state_at r i) ≡ true).
      let last : i ≡ places r - 1 = omega (arith, e) in
      inr (ending e (λ ends. none (closes (subst (λ k. opened (state_at r k) ≡ true) last is) ends))))
      (λ (is : opened (state_at r i) ≡ false). inl (omega (arith, e), is))
      (cases_Bool (opened (state_at r i)))

  bad_on : (i : ℕ) → Bad opened M r i → Bad opened N r i
  bad_on i bad = ⊎_elim (λ closed. inl closed) (bad_wrong i) bad

-- every row of the one is alike to that of the other
alike : (E : ℕ) (opened : ℕ → Bool) (M N : System) → Tells opened M N → (es : List Entry) (r : Run) (bytes : ℕ) → AllAlike (rows E opened M es r bytes) (rows E opened N es r bytes)
alike E opened M N tells es r bytes =
    let on = bad_on opened M N tells r in
    let off = bad_on opened N M (back tells) r in (
      record { number = refl; layer = refl; on = λ i x. x; back = λ i x. x },
      (
        record { number = refl; layer = refl; on = λ i x. x; back = λ i x. x },
        (
          record { number = refl; layer = refl; on = λ i x. (lowest_alike on off i x.0, x.1); back = λ i x. (lowest_alike off on i x.0, x.1) },
          (
            record { number = refl; layer = refl; on = λ i x. (lowest_alike on off i x.0, x.1); back = λ i x. (lowest_alike off on i x.0, x.1) },
            (record { number = refl; layer = refl; on = λ i x. x; back = λ i x. x }, tt),
          ),
        ),
      ),
    )

-- over open states alone the two have the same formulas hold
satisfied : (opened : ℕ → Bool) (M N : System) → Tells opened M N → (r : Run) → 0 < places r → ((i : ℕ) → i < places r → opened (state_at r i) ≡ true) → (f : Ltl) → Satisfies M r f → Satisfies N r f
satisfied opened M N tells r some over f holds =
    let same : Same M N (unroll r) = λ i within. let is = over (place r i) (inside r some i within) in (tells.facts _ is, tells.arcs _ is) in
    agree M N (unroll r) same (turned M N (unroll r) same) f 0 (starts r some) holds

module _ {M : Model} {h : List Turn} {walk : Option ℕ} (b : Book) (exact : Exact M.system (book_of b)) (kept : Kept M (book_of b) walk h) (es : List Entry) (r : Run) (bytes : ℕ) where
  same_open : opens b ≡ is_open h
  same_open = λ i s. kept.opened s i

  tells : Tells (is_open h) (view b M) M.system
  tells = record {
    initial = refl;
    facts = λ s is. (said_same M.system s (book_of b s) (kept.opened s ∙ is) (exact s)).0;
    arcs = λ s is. (said_same M.system s (book_of b s) (kept.opened s ∙ is) (exact s)).1;
  }

  pub refused_alike : (e : Refusal) → First (rows M.events (opens b) (view b M) es r bytes) e → First (rows M.events (is_open h) M.system es r bytes) e
  refused_alike e first =
      first_alike (rows M.events (is_open h) (view b M) es r bytes) (rows M.events (is_open h) M.system es r bytes) e (alike M.events (is_open h) (view b M) M.system tells es r bytes) (subst (λ o. First (rows M.events o (view b M) es r bytes) e) same_open first)

  pub clear_for_plant : Clear (rows M.events (opens b) (view b M) es r bytes) → Clear (rows M.events (is_open h) M.system es r bytes)
  clear_for_plant clear =
      clear_alike (rows M.events (is_open h) (view b M) es r bytes) (rows M.events (is_open h) M.system es r bytes) (alike M.events (is_open h) (view b M) M.system tells es r bytes) (subst (λ o. Clear (rows M.events o (view b M) es r bytes)) same_open clear)

  -- of a run that is granted, all states are open
  over_open : Clear (rows M.events (opens b) (view b M) es r bytes) → (i : ℕ) → i < places r → is_open h (state_at r i) ≡ true
  over_open clear i lt =
      ⊎_elim
      (λ (is : is_open h (state_at r i) ≡ true). is)
      (λ (is : is_open h (state_at r i) ≡ false).
      absurd (no_lowest (Bad (opens b) (view b M) r) (λ j low. not_lowest clear j low) i (inl (lt, kept.opened (state_at r i) ∙ is))))
      (cases_Bool (is_open h (state_at r i)))
    where
      -- neither row of places applies, so no place is the lowest bad one
      not_lowest : Clear (rows M.events (opens b) (view b M) es r bytes) → (j : ℕ) → Lowest (Bad (opens b) (view b M) r) j → ⊥
      not_lowest clear j low = clear.1.1.1.0 j (low, λ closed. clear.1.1.0 j (low, closed))

  -- a run that is granted has a place
  some : Clear (rows M.events (opens b) (view b M) es r bytes) → 0 < places r
  some clear =
      ⊎_elim
      (λ (lt : 0 < places r). lt)
      (λ (le : places r ≤ 0). absurd (clear.1.0 0 (λ shaped. omega (arith, shaped.some), refl)))
      (cases_lt 0 (places r))

  pub same_answer : Clear (rows M.events (opens b) (view b M) es r bytes) → (f : Ltl) (t : Bool) → Decides t (Satisfies (view b M) r f) → Decides t (Satisfies M.system r f)
  same_answer clear f t decides = (
    λ e. satisfied (is_open h) (view b M) M.system tells r (some clear) (over_open clear) f (decides.0 e),
    λ holds. decides.1 (satisfied (is_open h) M.system (view b M) (back tells) r (some clear) (over_open clear) f holds),
  )
