use Rattle.std.proofs.Common.{◌≡◌, ℕ, ◌+◌, Some, None, Option, List, length, MatchOption, sym, refl, ap, ◌∙◌, subst, arith, rules}
use Rattle.refusal.specs.Rows.{Lowest}
use Rattle.table.specs.Words.{state_count, event_count, at_counts, at_events, at_targets, initials, counts, events, targets}
use Rattle.table.specs.Refused.{OutOfRange}
use Rattle.table.specs.Measured.{FirstBeyond}
use Rattle.table.specs.declared.sections.Sections.{Sections}
use Rattle.table.proofs.Ranges.{Low, long_initials, long_facts, long_counts, long_events, lowest_initial, lowest_count, lowest_event, lowest_target, all_in_range}
use Rattle.table.proofs.sections.Sections.out_of_range.Goals as goal

-- where the arrays begin, by the sections before them
module _ (t : Sections) where
  counts_at : at_counts t.words.now ≡ 4 + length t.initial.now + length t.facts.now
  counts_at = omega (arith, ap length t.by_initial, ap length t.by_facts, long_initials t.measured, long_facts t.measured)

  events_at : at_events t.words.now ≡ 4 + length t.initial.now + length t.facts.now + length t.counts.now
  events_at = omega (arith, counts_at, ap length t.by_counts, long_counts t.measured)

  targets_at : at_targets t.words.now ≡ 4 + length t.initial.now + length t.facts.now + length t.counts.now + length t.events.now
  targets_at = omega (arith, events_at, ap length t.by_events, long_events t.measured)

-- what a search of one array says of the words
abbrev Found : List ℕ → ℕ → ℕ → Option ℕ → Type 0
Found xs at limit r = MatchOption r (Low xs limit) (λ place. (k : ℕ) × (place ≡ at + k) × FirstBeyond xs limit k)

-- P of the place found, where nothing was found before
found : (P : ℕ → Type 0) (Q : Type 0) (xs ys : List ℕ) (at from limit : ℕ) (r : Option ℕ) → Q → xs ≡ ys → from ≡ at → ((k : ℕ) → FirstBeyond ys limit k → P (from + k)) → Found xs at limit r → MatchOption r (Q × Low ys limit) P
found P Q xs ys at from limit None before same where_from tell low = (before, subst (λ zs. Low zs limit) same low)
found P Q xs ys at from limit (Some place) before same where_from tell h =
    subst P (ap (λ n. n + h.0) where_from ∙ sym h.1) (tell h.0 (subst (λ zs. FirstBeyond zs limit h.0) same h.2))

-- the last search
all_low : (P : ℕ → Type 0) (Q : Type 0) (xs : List ℕ) (limit : ℕ) (M : Type 0) (r : Option ℕ) → (Low xs limit → M) → MatchOption r (Q × Low xs limit) P → MatchOption r M P
all_low P Q xs limit M None tell h = tell h.1
all_low P Q xs limit M (Some place) tell h = h

-- one search after another
next : (P : ℕ → Type 0) (N M : Type 0) {Post : Type 0} (r s : Option ℕ) → MatchOption r N P → MatchOption r Post (λ x. s ≡ Some x) → (N → Post → MatchOption s M P) → MatchOption s M P
next P N M None s before goes tell = tell before goes
next P N M (Some x) s before goes tell = rw goes before

pub returns : goal.returns
returns c =
    let t = c.args.self.now in
    let ws = t.words.now in
    let m = t.measured in
    let P = Lowest (OutOfRange ws) in
    let One = Unit {0} × Low (initials ws) (state_count ws) in
    let Two = One × Low (counts ws) 17 in
    let Three = Two × Low (events ws) (event_count ws) in
    let first = found P (Unit {0}) t.initial.now (initials ws) 4 4 (state_count ws) c.first_beyond.result tt t.by_initial refl (lowest_initial m) c.first_beyond.ensures in
    next P Three ((i : ℕ) → OutOfRange ws i → ⊥) c.or_else-2.result c.or_else-3.result
    (next P Two Three c.or_else.result c.or_else-2.result
    (next P One Two c.first_beyond.result c.or_else.result first c.or_else.ensures
    (λ low post.
    let here : Found t.counts.now (4 + length t.initial.now + length t.facts.now) 17 c.or_else.result = search rules in
    found P One t.counts.now (counts ws) _ (at_counts ws) 17 c.or_else.result low t.by_counts (counts_at t) (lowest_count m low.1) here)) c.or_else-2.ensures
    (λ low post.
    let here : Found t.events.now (4 + length t.initial.now + length t.facts.now + length t.counts.now) (event_count ws) c.or_else-2.result = search rules in
    found P Two t.events.now (events ws) _ (at_events ws) (event_count ws) c.or_else-2.result low t.by_events (events_at t) (lowest_event m low.0.1 low.1) here)) c.or_else-3.ensures
    (λ low post.
    let here : Found t.targets.now (4 + length t.initial.now + length t.facts.now + length t.counts.now + length t.events.now) (state_count ws) c.or_else-3.result = search rules in
    all_low P Three (targets ws) (state_count ws) ((i : ℕ) → OutOfRange ws i → ⊥) c.or_else-3.result (all_in_range m low.0.0.1 low.0.1 low.1)
    (found P Three t.targets.now (targets ws) _ (at_targets ws) (state_count ws) c.or_else-3.result low t.by_targets (targets_at t) (lowest_target m low.0.0.1 low.0.1 low.1) here))
