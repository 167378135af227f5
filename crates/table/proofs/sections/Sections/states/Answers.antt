use Rattle.std.proofs.Common.{◌≡◌, ℕ, ◌+◌, ◌<◌, ◌≤◌, List, [], ◌∷◌, length, get_or, take, drop, vec_items, sum, sym, ap, ◌∙◌, subst, ⊎_elim, arith, rules}
use Rattle.std.proofs.lemmas.Slice.Zip.{Zip-more, either_empty_from_Zip}
use Rattle.std.proofs.lemmas.List.{length-append, length-drop}
use Rattle.plant.proofs.Pushed.{one_more}
use Rattle.table.specs.Words.{state_count, arc_count, part, facts, counts, all_arcs, arcs_of}
use Rattle.table.specs.Parts.{facts_at, arcs_at}
use Rattle.table.specs.declared.parts.State.{State}
use Rattle.table.specs.declared.sections.Sections.{Sections}
use Rattle.table.proofs.Ranges.{long_facts, long_counts}
use Rattle.std.specs.List.{All}
use Rattle.std.proofs.lemmas.List.Elements.{All-nil, All-cons, All-append}
use Rattle.table.proofs.States.{next, more, small, within, own_arcs}
use Rattle.table.proofs.sections.Sections.states.Goals as goal

-- the arcs of a state stand among all
abbrev Fits : Sections → State → Type 0
Fits t x = x.from + x.count ≤ arc_count t.words.now

-- the count of the turn is the next of the words' counts
turn : (t : Sections) (n count : ℕ) (rest : List ℕ) → drop n (counts t.words.now) ≡ count ∷ rest → (n < length t.counts.now) × (count ≡ get_or t.counts.now n 0) × (rest ≡ drop (n + 1) (counts t.words.now))
turn t n count rest left =
    let h = next (counts t.words.now) n count rest left in
    (omega (arith, h.0, ap length t.by_counts), h.1 ∙ sym (ap (λ xs. get_or xs n 0) t.by_counts), h.2)

pub overflow_add-from : goal.overflow_add-from
overflow_add-from c =
    let t = c.args.self.now in
    let left = (Zip-more c.loop-facts.facts-iterator c.next.new.self c.next.result (c.in-Some.facts, c.in-Some.count) c.in-Some.is c.next.ensures.steps).1 in
    let n = length (vec_items c.loop-facts.states) in
    let h = turn t n c.in-Some.count.now _ (sym c.loop-facts.invariant.counts_left ∙ left) in
    omega (arith, small t c.requires.adds n c.loop-facts.from c.in-Some.count.now h.0 h.1 c.loop-facts.invariant.place)

pub loop-facts-preserved : goal.loop-facts-preserved
loop-facts-preserved c =
    let t = c.args.self.now in
    let inv = c.loop-facts.invariant in
    let both = Zip-more c.loop-facts.facts-iterator c.next.new.self c.next.result (c.in-Some.facts, c.in-Some.count) c.in-Some.is c.next.ensures.steps in
    let before = vec_items c.loop-facts.states in
    let after = vec_items c.push.new.self in
    let n = length before in
    let h = turn t n c.in-Some.count.now _ (sym inv.counts_left ∙ both.1) in
    let f = next (facts t.words.now) n c.in-Some.facts.now _ (sym inv.facts_left ∙ both.0) in
    let state : State = record { facts = c.in-Some.facts.now; from = c.loop-facts.from; count = c.in-Some.count.now } in
    let pushed = c.in_ok-push.ensures.items in
    let long : n + 1 ≡ length after = omega (arith, ap length pushed, length-append before (state ∷ [])) in
    let place = more t c.requires.adds n c.loop-facts.from c.in-Some.count.now h.0 h.1 inv.place in
    let arcs = own_arcs t c.requires.adds n c.loop-facts.from c.in-Some.count.now h.0 h.1 inv.place in
    let here = within t c.requires.adds n c.loop-facts.from c.in-Some.count.now h.0 h.1 inv.place in
    record {
      can = search rules;
      finite = search rules;
      facts_left = f.2 ∙ ap (λ k. drop k (facts t.words.now)) long;
      counts_left = h.2 ∙ ap (λ k. drop k (counts t.words.now)) long;
      few = omega (arith, long, f.0, long_facts t.measured);
      place = place ∙ ap (λ k. sum (take k (counts t.words.now))) long;
      by_facts =
          subst (λ xs. (s : ℕ) → s < length xs → facts_at xs s ≡ get_or (facts t.words.now) s 0) (sym pushed)
          (one_more (λ (x : State). x.facts) 0 (λ s. get_or (facts t.words.now) s 0) before state inv.by_facts f.1);
      by_arcs =
          subst (λ xs. (s : ℕ) → s < length xs → arcs_at (all_arcs t.words.now) xs s ≡ arcs_of t.words.now s) (sym pushed)
          (one_more (λ (x : State). part x.from x.count (all_arcs t.words.now)) [] (arcs_of t.words.now) before state inv.by_arcs arcs);
      inside = subst (All (Fits t)) (sym pushed) (All-append (Fits t) before (state ∷ []) inv.inside (All-cons (Fits t) state [] here (All-nil (Fits t))));
    }

pub returns : goal.returns
returns c =
    let t = c.args.self.now in
    let inv = c.loop-facts.invariant in
    let ended = either_empty_from_Zip c.loop-facts.facts-iterator c.next.new.self c.next.result c.in-None.is c.next.ensures.steps in
    let n = length (vec_items c.loop-facts.states) in
    let all : state_count t.words.now ≤ n =
    ⊎_elim
    (λ e. omega (arith, ap length (sym inv.facts_left ∙ e), length-drop n (facts t.words.now), long_facts t.measured))
    (λ e. omega (arith, ap length (sym inv.counts_left ∙ e), length-drop n (counts t.words.now), long_counts t.measured))
    ended in
    record {
      many = omega (arith, inv.few, all);
      by_facts = λ s lt. inv.by_facts s (omega (arith, all, lt));
      by_arcs = λ s lt. inv.by_arcs s (omega (arith, all, lt));
      inside = inv.inside;
    }
