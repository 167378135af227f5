-- Where the words of a table are out of range. Relies on Lookups.
use Rattle.std.proofs.Common.{◌≡◌, ℕ, ◌+◌, ◌-◌, ◌<◌, ◌≤◌, List, length, get_or, ap, inl, inr, ⊎_elim, arith}
use Rattle.std.proofs.lemmas.Bool.{cases_lt}
use Rattle.refusal.specs.Rows.{Lowest}
use Rattle.table.specs.Words.{state_count, event_count, initial_count, arc_count, at_facts, at_counts, at_events, at_targets, part, initials, facts, counts, events, targets}
use Rattle.table.specs.Refused.{limits, Beyond, OutOfRange, initial, count, event, target}
use Rattle.table.specs.Measured.{Measured, FirstBeyond}
use Rattle.table.proofs.Lookups.{part_long, part_at}

-- the sections are as long as the counts say
module _ {ws : List ℕ} (m : Measured ws) where
  pub long_initials : length (initials ws) ≡ initial_count ws
  long_initials = part_long ws 4 (initial_count ws) (omega (arith, m.long))

  pub long_facts : length (facts ws) ≡ state_count ws
  long_facts = part_long ws (at_facts ws) (state_count ws) (omega (arith, m.long))

  pub long_counts : length (counts ws) ≡ state_count ws
  long_counts = part_long ws (at_counts ws) (state_count ws) (omega (arith, m.long))

  pub long_events : length (events ws) ≡ arc_count ws
  long_events = part_long ws (at_events ws) (arc_count ws) (omega (arith, m.long))

  pub long_targets : length (targets ws) ≡ arc_count ws
  long_targets = part_long ws (at_targets ws) (arc_count ws) (omega (arith, m.long))

-- every word of a part is below the limit
abbrev pub Low : List ℕ → ℕ → Type 0
Low xs limit = (k : ℕ) → k < length xs → get_or xs k 0 < limit

module _ (ws : List ℕ) (from n limit : ℕ) (fits : from + n ≤ length ws) where
  pub low_not_beyond : Low (part from n ws) limit → (i : ℕ) → Beyond ws from n limit i → ⊥
  low_not_beyond low i b =
      let k = i - from in
      let at : get_or (part from n ws) k 0 ≡ get_or ws (from + k) 0 = part_at ws from n k 0 (omega (arith, b.0, b.1)) in
      let same : get_or ws (from + k) 0 ≡ get_or ws i 0 = ap (λ j. get_or ws j 0) (omega (arith, b.0)) in
      omega (arith, low k (omega (arith, b.0, b.1, part_long ws from n fits)), at, same, b.2)

  pub first_is_beyond : (k : ℕ) → FirstBeyond (part from n ws) limit k → Beyond ws from n limit (from + k)
  first_is_beyond k f =
      let inside : k < n = omega (arith, f.within, part_long ws from n fits) in
      (omega arith, omega arith, omega (arith, f.high, part_at ws from n k 0 inside))

  pub none_before_first : (k : ℕ) → FirstBeyond (part from n ws) limit k → (j : ℕ) → j < from + k → Beyond ws from n limit j → ⊥
  none_before_first k f j lt b =
      let inside : k < n = omega (arith, f.within, part_long ws from n fits) in
      let i = j - from in
      let at : get_or (part from n ws) i 0 ≡ get_or ws (from + i) 0 = part_at ws from n i 0 (omega (arith, b.0)) in
      let same : get_or ws (from + i) 0 ≡ get_or ws j 0 = ap (λ x. get_or ws x 0) (omega (arith, b.0)) in
      omega (arith, f.below i (omega (arith, b.0)), at, same, b.2)

none : {ws : List ℕ} {j : ℕ} → (Beyond ws 4 (initial_count ws) (state_count ws) j → ⊥) → (Beyond ws (at_counts ws) (state_count ws) 17 j → ⊥) → (Beyond ws (at_events ws) (arc_count ws) (event_count ws) j → ⊥) → (Beyond ws (at_targets ws) (arc_count ws) (state_count ws) j → ⊥) → OutOfRange ws j → ⊥
none a b c d (initial x) = a x
none a b c d (count x) = b x
none a b c d (event x) = c x
none a b c d (target x) = d x

module _ {ws : List ℕ} (m : Measured ws) where
  pub lowest_initial : (k : ℕ) → FirstBeyond (initials ws) (state_count ws) k → Lowest (OutOfRange ws) (4 + k)
  lowest_initial k f = record {
    here = initial (first_is_beyond ws 4 (initial_count ws) (state_count ws) (omega (arith, m.long)) k f);
    none_below = λ j lt.
        let inside : k < initial_count ws = omega (arith, f.within, long_initials m) in
        none (none_before_first ws 4 (initial_count ws) (state_count ws) (omega (arith, m.long)) k f j lt) (λ b. omega (arith, b.0)) (λ b. omega (arith, b.0)) (λ b. omega (arith, b.0));
  }

  module _ (initial_low : Low (initials ws) (state_count ws)) where
    no_initial : (i : ℕ) → Beyond ws 4 (initial_count ws) (state_count ws) i → ⊥
    no_initial = low_not_beyond ws 4 (initial_count ws) (state_count ws) (omega (arith, m.long)) initial_low

    pub lowest_count : (k : ℕ) → FirstBeyond (counts ws) 17 k → Lowest (OutOfRange ws) (at_counts ws + k)
    lowest_count k f = record {
      here = count (first_is_beyond ws (at_counts ws) (state_count ws) 17 (omega (arith, m.long)) k f);
      none_below = λ j lt.
          let inside : k < state_count ws = omega (arith, f.within, long_counts m) in
          none (no_initial j) (none_before_first ws (at_counts ws) (state_count ws) 17 (omega (arith, m.long)) k f j lt) (λ b. omega (arith, b.0)) (λ b. omega (arith, b.0));
    }

    module _ (count_low : Low (counts ws) 17) where
      no_count : (i : ℕ) → Beyond ws (at_counts ws) (state_count ws) 17 i → ⊥
      no_count = low_not_beyond ws (at_counts ws) (state_count ws) 17 (omega (arith, m.long)) count_low

      pub lowest_event : (k : ℕ) → FirstBeyond (events ws) (event_count ws) k → Lowest (OutOfRange ws) (at_events ws + k)
      lowest_event k f = record {
        here = event (first_is_beyond ws (at_events ws) (arc_count ws) (event_count ws) (omega (arith, m.long)) k f);
        none_below = λ j lt.
            let inside : k < arc_count ws = omega (arith, f.within, long_events m) in
            none (no_initial j) (no_count j) (none_before_first ws (at_events ws) (arc_count ws) (event_count ws) (omega (arith, m.long)) k f j lt) (λ b. omega (arith, b.0));
      }

      module _ (event_low : Low (events ws) (event_count ws)) where
        no_event : (i : ℕ) → Beyond ws (at_events ws) (arc_count ws) (event_count ws) i → ⊥
        no_event = low_not_beyond ws (at_events ws) (arc_count ws) (event_count ws) (omega (arith, m.long)) event_low

        pub lowest_target : (k : ℕ) → FirstBeyond (targets ws) (state_count ws) k → Lowest (OutOfRange ws) (at_targets ws + k)
        lowest_target k f = record {
          here = target (first_is_beyond ws (at_targets ws) (arc_count ws) (state_count ws) (omega (arith, m.long)) k f);
          none_below = λ j lt. none (no_initial j) (no_count j) (no_event j) (none_before_first ws (at_targets ws) (arc_count ws) (state_count ws) (omega (arith, m.long)) k f j lt);
        }

        pub all_in_range : Low (targets ws) (state_count ws) → (i : ℕ) → OutOfRange ws i → ⊥
        all_in_range target_low i =
            none (no_initial i) (no_count i) (no_event i) (low_not_beyond ws (at_targets ws) (arc_count ws) (state_count ws) (omega (arith, m.long)) target_low i)

-- S, E, I and A within their limits
module _ {ws : List ℕ} (m : Measured ws) (i : ℕ) (lt : i < 4) where
  pub at_least : (get_or limits i (0, 0)).0 ≤ get_or ws i 0
  at_least = ⊎_elim (λ low. absurd (m.limits i (lt, inl low))) (λ ge. ge) (cases_lt (get_or ws i 0) (get_or limits i (0, 0)).0)

  pub at_most : get_or ws i 0 ≤ (get_or limits i (0, 0)).1
  at_most = ⊎_elim (λ high. absurd (m.limits i (lt, inr high))) (λ le. le) (cases_lt (get_or limits i (0, 0)).1 (get_or ws i 0))

-- where nothing of a part is out of range, every word of it is below the limit
pub low_part : (ws : List ℕ) (from n limit : ℕ) → from + n ≤ length ws → ((i : ℕ) → Beyond ws from n limit i → ⊥) → Low (part from n ws) limit
low_part ws from n limit fits none k lt =
    let inside : k < n = omega (arith, part_long ws from n fits) in
    let at = part_at ws from n k 0 inside in
    ⊎_elim
    (λ low. low)
    (λ high. absurd (none (from + k) (omega arith, omega arith, omega (arith, at, high))))
    (cases_lt (get_or (part from n ws) k 0) limit)

module _ {ws : List ℕ} (m : Measured ws) (ranged : (i : ℕ) → OutOfRange ws i → ⊥) where
  pub low_initials : Low (initials ws) (state_count ws)
  low_initials = low_part ws 4 (initial_count ws) (state_count ws) (omega (arith, m.long)) (λ i b. ranged i (initial b))

  pub low_counts : Low (counts ws) 17
  low_counts = low_part ws (at_counts ws) (state_count ws) 17 (omega (arith, m.long)) (λ i b. ranged i (count b))

  pub low_events : Low (events ws) (event_count ws)
  low_events = low_part ws (at_events ws) (arc_count ws) (event_count ws) (omega (arith, m.long)) (λ i b. ranged i (event b))

  pub low_targets : Low (targets ws) (state_count ws)
  low_targets = low_part ws (at_targets ws) (arc_count ws) (state_count ws) (omega (arith, m.long)) (λ i b. ranged i (target b))
