-- The states that are read one after another, and the places of their arcs. Relies on Apart, Ranges and Lookups.
use Rattle.std.proofs.Common.{◌≡◌, ℕ, ◌+◌, ◌-◌, ◌<◌, ◌≤◌, List, ◌∷◌, length, get_or, drop, sum, sym, ap, ◌∙◌, ⊎_elim, arith}
use Rattle.std.proofs.lemmas.List.{drop_more, drop_all, get_or_default}
use Rattle.std.proofs.lemmas.Bool.{cases_lt}
use Rattle.std.specs.List.{All}
use Rattle.table.specs.Words.{state_count, arc_count, counts, events, part, paired, all_arcs, arcs_of}
use Rattle.table.specs.Refused.{OutOfRange}
use Rattle.table.specs.declared.sections.Sections.{Sections}
use Rattle.table.proofs.Lookups.{part_long, part_short}
use Rattle.table.proofs.Ranges.{long_counts, long_events, long_targets, at_most, low_events}
use Rattle.table.proofs.Apart.{before, before_more, ends_within, paired_part}

-- what is left of a list begins with the element at its place
pub next : (xs : List ℕ) (n x : ℕ) (ys : List ℕ) → drop n xs ≡ x ∷ ys → (n < length xs) × (x ≡ get_or xs n 0) × (ys ≡ drop (n + 1) xs)
next xs n x ys left =
    ⊎_elim
    (λ lt. let more = drop_more xs n 0 lt in (lt, cc, cc))
    (λ ge. let none = drop_all n xs ge in absurd (cc))
    (cases_lt n (length xs))

-- the turn of a loop over the states for state n, which has so many arcs, with the arcs of the lower states before them
module _ (t : Sections) (adds : sum (counts t.words.now) ≡ arc_count t.words.now) (n from count : ℕ) (lt : n < length t.counts.now) (own : count ≡ get_or t.counts.now n 0) (is : from ≡ before t.words.now n) where
  pub state : n < state_count t.words.now
  state = omega (arith, ap length t.by_counts, long_counts t.measured)

  count_is : count ≡ get_or (counts t.words.now) n 0
  count_is = own ∙ ap (λ xs. get_or xs n 0) t.by_counts

  pub within : from + count ≤ arc_count t.words.now
  within = omega (arith, count_is, ends_within t.measured adds n state)

  pub more : from + count ≡ before t.words.now (n + 1)
  more = omega (arith, count_is, before_more t.measured n state)

  pub small : from + count ≤ 65536
  small = omega (arith, within, at_most t.measured 3 (omega arith))

  pub parallel : length t.targets.now ≡ length t.events.now
  parallel = omega (arith, ap length t.by_events, ap length t.by_targets, long_events t.measured, long_targets t.measured)

  pub inside : from + count ≤ length t.events.now
  inside = omega (arith, within, ap length t.by_events, long_events t.measured)

  pub same_length : length (part from (from + count - from) t.targets.now) ≡ length (part from (from + count - from) t.events.now)
  same_length =
      part_long t.targets.now from (from + count - from) (omega (arith, inside, parallel))
      ∙ sym (part_long t.events.now from (from + count - from) (omega (arith, inside)))

  pub arcs_are : paired (part from (from + count - from) t.events.now) (part from (from + count - from) t.targets.now) ≡ arcs_of t.words.now n
  arcs_are =
      let few : from + count - from ≡ get_or (counts t.words.now) n 0 = omega (arith, count_is) in
      paired_part from (from + count - from) t.events.now t.targets.now parallel
      ∙ (λ j. part (is j) (few j) (paired (t.by_events j) (t.by_targets j)))

  -- a place among them is one of so many
  pub among : (k : ℕ) → k < length (arcs_of t.words.now n) → k < count
  among k low = omega (arith, count_is, part_short (all_arcs t.words.now) (before t.words.now n) (get_or (counts t.words.now) n 0))

  -- the state that says where they stand has them
  pub own_arcs : part from count (all_arcs t.words.now) ≡ arcs_of t.words.now n
  own_arcs j = part (is j) (count_is j) (all_arcs t.words.now)

-- the events of arcs that are in range
pub all_low : (t : Sections) → ((i : ℕ) → OutOfRange t.words.now i → ⊥) → All (λ event. event < 64) t.events.now
all_low t ranged k d lt =
    let here : k < length (events t.words.now) = omega (arith, lt, ap length t.by_events) in
    omega (arith, ap (λ xs. get_or xs k d) t.by_events, get_or_default (events t.words.now) k d 0 here, low_events t.measured ranged k here, at_most t.measured 1 (omega arith))
