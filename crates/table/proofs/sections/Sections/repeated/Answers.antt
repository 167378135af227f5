use Rattle.std.proofs.Common.{◌≡◌, ℕ, ◌+◌, ◌-◌, ◌*◌, ◌<◌, length, get_or, sum, refl, ap, subst, arith, below_more}
use Rattle.refusal.specs.Rows.{Lowest}
use Rattle.plant.specs.Model.{Distinct}
use Rattle.table.specs.Words.{arc_count, at_events, part, counts, paired, arcs_of}
use Rattle.table.specs.Refused.{Repeated}
use Rattle.table.specs.Measured.{Again}
use Rattle.table.specs.declared.sections.Sections.{Sections}
use Rattle.table.proofs.Apart.{before, lowest_arc, lowest_initial, none_repeated}
use Rattle.table.proofs.Ranges.{long_counts, long_events}
use Rattle.table.proofs.States.{state, within, more, small, inside, arcs_are, among}
use Rattle.table.proofs.sections.Sections.repeated.Goals as goal

-- where the events begin
events_at : (t : Sections) → at_events t.words.now ≡ length t.words.now - 2 * length t.events.now
events_at t = omega (arith, t.measured.long, ap length t.by_events, long_events t.measured)

-- a place that was found is one of the state's arcs
here : (t : Sections) (i from : ℕ) (lt : i < length t.counts.now) (is : from ≡ before t.words.now i) (adds : sum (counts t.words.now) ≡ arc_count t.words.now) (k : ℕ)
    → Lowest (Again (paired (part from (from + get_or t.counts.now i 0 - from) t.events.now) (part from (from + get_or t.counts.now i 0 - from) t.targets.now))) k → k < length (arcs_of t.words.now i)
here t i from lt is adds k low = (subst (λ xs. Lowest (Again xs) k) (arcs_are t adds i from _ lt refl is) low).here.within

pub returns-in-Some : goal.returns-in-Some
returns-in-Some c =
    let t = c.args.self.now in
    lowest_initial t.measured c.in-Some.k (subst (λ xs. Lowest (Again xs) c.in-Some.k) t.by_initial c.in-Some.ensures)

pub slice_bounds-repeated_arc-end : goal.slice_bounds-repeated_arc-end
slice_bounds-repeated_arc-end c = omega (arith, inside c.args.self.now c.requires c.loop-count.count-index c.loop-count.from _ c.loop-count-test.true refl c.loop-count.invariant.0)

pub overflow_add-result-in-Some-repeated_arc : goal.overflow_add-result-in-Some-repeated_arc
overflow_add-result-in-Some-repeated_arc c =
    let t = c.args.self.now in
    let i = c.loop-count.count-index in
    let from = c.loop-count.from in
    let lt = c.loop-count-test.true in
    let is = c.loop-count.invariant.0 in
    omega (arith, among t c.requires i from _ lt refl is c.in-Some-repeated_arc.k (here t i from lt is c.requires c.in-Some-repeated_arc.k c.in-Some-repeated_arc.ensures), small t c.requires i from _ lt refl is)

pub overflow_add-result-in-Some-repeated_arc-2 : goal.overflow_add-result-in-Some-repeated_arc-2
overflow_add-result-in-Some-repeated_arc-2 c =
    let t = c.args.self.now in
    let i = c.loop-count.count-index in
    let from = c.loop-count.from in
    let lt = c.loop-count-test.true in
    let is = c.loop-count.invariant.0 in
    omega (arith, among t c.requires i from _ lt refl is c.in-Some-repeated_arc.k (here t i from lt is c.requires c.in-Some-repeated_arc.k c.in-Some-repeated_arc.ensures), within t c.requires i from _ lt refl is, t.measured.long, ap length t.by_events, long_events t.measured)

pub returns-in-Some-repeated_arc : goal.returns-in-Some-repeated_arc
returns-in-Some-repeated_arc c =
    let t = c.args.self.now in
    let ws = t.words.now in
    let i = c.loop-count.count-index in
    let from = c.loop-count.from in
    let k = c.in-Some-repeated_arc.k in
    let lt = c.loop-count-test.true in
    let is = c.loop-count.invariant.0 in
    let apart = subst Distinct t.by_initial c.in_default.ensures in
    let low = subst (λ xs. Lowest (Again xs) k) (arcs_are t c.requires i from _ lt refl is) c.in-Some-repeated_arc.ensures in
    let place : at_events ws + (before ws i + k) ≡ (length ws - 2 * length t.events.now) + (from + k) = omega (arith, is, events_at t) in
    subst (Lowest (Repeated ws)) place (lowest_arc t.measured c.requires apart i k (state t c.requires i from _ lt refl is) c.loop-count.invariant.1 low)

pub loop-count-preserved : goal.loop-count-preserved
loop-count-preserved c =
    let t = c.args.self.now in
    let i = c.loop-count.count-index in
    let from = c.loop-count.from in
    let lt = c.loop-count-test.true in
    let is = c.loop-count.invariant.0 in
    let here = subst Distinct (arcs_are t c.requires i from _ lt refl is) c.in_default-repeated_arc.ensures in
    (more t c.requires i from _ lt refl is, below_more _ _ c.loop-count.invariant.1 here)

pub returns : goal.returns
returns c =
    let t = c.args.self.now in
    none_repeated t.measured c.requires (subst Distinct t.by_initial c.in_default.ensures)
    (λ r lt. c.loop-count.invariant.1 r (omega (arith, c.loop-count-test.false, ap length t.by_counts, long_counts t.measured)))
