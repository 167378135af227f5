-- Where the arcs of a state stand, and where one is repeated. Relies on Lookups, Paired, Repeats and Ranges.
use Rattle.std.proofs.Common.{◌≡◌, ℕ, ◌+◌, ◌<◌, ◌≤◌, List, length, get_or, take, drop, sum, sym, refl, ap, ◌∙◌, subst, ⊎_elim, arith}
use Rattle.std.proofs.lemmas.List.{take-take, get_or_past, get_or_default}
use Rattle.std.proofs.lemmas.List.Sums.{sum_by_more, sum_by-take-le}
use Rattle.std.proofs.lemmas.Bool.{cases_lt}
use Rattle.refusal.specs.Rows.{Lowest}
use Rattle.meaning.specs.Systems.{no_arc}
use Rattle.plant.specs.Model.{Distinct}
use Rattle.table.specs.Words.{state_count, initial_count, arc_count, at_events, part, initials, counts, events, targets, paired, all_arcs, arcs_of}
use Rattle.table.specs.Refused.{Repeated, initial, arc}
use Rattle.table.specs.Measured.{Measured, Again}
use Rattle.table.proofs.Lookups.{part_long, part_short}
use Rattle.table.proofs.Paired.{length_paired, paired_take, paired_drop}
use Rattle.table.proofs.Ranges.{long_initials, long_counts, long_events, long_targets}

-- how many arcs stand before those of a state
abbrev pub before : List ℕ → ℕ → ℕ
before ws s = sum (take s (counts ws))

pub before_le : (ws : List ℕ) (s t : ℕ) → s ≤ t → before ws s ≤ before ws t
before_le ws s t le = subst (λ xs. sum xs ≤ before ws t) (take-take s t (counts ws) le) (sum_by-take-le (λ x. x) (take t (counts ws)) s)

module _ {ws : List ℕ} (m : Measured ws) where
  pub before_more : (s : ℕ) → s < state_count ws → before ws (s + 1) ≡ before ws s + get_or (counts ws) s 0
  before_more s lt = sum_by_more (λ x. x) (counts ws) s 0 (omega (arith, long_counts m))

  -- a state that has an arc is one of the states
  pub counted : (s k : ℕ) → k < get_or (counts ws) s 0 → s < state_count ws
  counted s k lt =
      ⊎_elim (λ low. low) (λ ge. absurd (omega (arith, get_or_past (counts ws) s 0 (omega (arith, long_counts m))))) (cases_lt s (state_count ws))

  pub long_arcs : length (all_arcs ws) ≡ arc_count ws
  long_arcs = length_paired (events ws) (targets ws) (long_targets m ∙ sym (long_events m)) ∙ long_events m

  module _ (adds : sum (counts ws) ≡ arc_count ws) where
    pub ends_within : (s : ℕ) → s < state_count ws → before ws s + get_or (counts ws) s 0 ≤ arc_count ws
    ends_within s lt = omega (arith, before_more s lt, sum_by-take-le (λ x. x) (counts ws) (s + 1), adds)

    pub long_arcs_of : (s : ℕ) → s < state_count ws → length (arcs_of ws s) ≡ get_or (counts ws) s 0
    long_arcs_of s lt = part_long (all_arcs ws) (before ws s) (get_or (counts ws) s 0) (omega (arith, ends_within s lt, long_arcs))

    -- an arc that stands before is one that stands again
    arc_is_again : (s j k : ℕ) → j < k → k < get_or (counts ws) s 0 → get_or (arcs_of ws s) j no_arc ≡ get_or (arcs_of ws s) k no_arc → Again (arcs_of ws s) k
    arc_is_again s j k lt within same =
        let long = long_arcs_of s (counted s k within) in
        record {
          within = omega (arith, long);
          earlier = j;
          before = lt;
          same = λ d. get_or_default (arcs_of ws s) j d no_arc (omega (arith, long)) ∙ same ∙ get_or_default (arcs_of ws s) k no_arc d (omega (arith, long));
        }

    module _ (apart : Distinct (initials ws)) where
      no_initial : {j k : ℕ} → j < k → k < initial_count ws → get_or (initials ws) j 0 ≡ get_or (initials ws) k 0 → ⊥
      no_initial {j} {k} lt within same =
          let long = long_initials m in
          apart j k (lt, omega (arith, long), λ d. get_or_default (initials ws) j d 0 (omega (arith, long)) ∙ same ∙ get_or_default (initials ws) k 0 d (omega (arith, long)))

      -- below the first arc that stands again, in the first state that has one, nothing is repeated
      none_below : (s k : ℕ) → s < state_count ws → ((r : ℕ) → r < s → Distinct (arcs_of ws r)) → Lowest (Again (arcs_of ws s)) k → (i : ℕ) → i < at_events ws + (before ws s + k) → Repeated ws i → ⊥
      none_below s k lt earlier low i under (initial j l less within same at) = no_initial less within same
      none_below s k lt earlier low i under (arc r j l less within same at) =
          let again = arc_is_again r j l less within same in
          let inside : k < get_or (counts ws) s 0 = omega (arith, low.here.within, part_short (all_arcs ws) (before ws s) (get_or (counts ws) s 0)) in
          ⊎_elim
          (λ lower. earlier r lower again.earlier l (again.before, again.within, again.same))
          (λ ge.
          ⊎_elim
          (λ higher. omega (arith, before_more s lt, before_le ws (s + 1) r (omega arith), at))
          (λ le.
          let e : r ≡ s = omega arith in
          low.none_below l (omega (arith, at, ap (before ws) e)) (subst (λ q. Again (arcs_of ws q) l) e again))
          (cases_lt s r))
          (cases_lt r s)

      pub lowest_arc : (s k : ℕ) → s < state_count ws → ((r : ℕ) → r < s → Distinct (arcs_of ws r)) → Lowest (Again (arcs_of ws s)) k → Lowest (Repeated ws) (at_events ws + (before ws s + k))
      lowest_arc s k lt earlier low = record {
        here = arc s low.here.earlier k low.here.before (omega (arith, low.here.within, part_short (all_arcs ws) (before ws s) (get_or (counts ws) s 0))) (low.here.same no_arc) refl;
        none_below = none_below s k lt earlier low;
      }

      pub none_repeated : ((r : ℕ) → r < state_count ws → Distinct (arcs_of ws r)) → (i : ℕ) → Repeated ws i → ⊥
      none_repeated all i (initial j l less within same at) = no_initial less within same
      none_repeated all i (arc r j l less within same at) =
          let again = arc_is_again r j l less within same in
          all r (counted r l within) again.earlier l (again.before, again.within, again.same)

  -- the first initial state that stands again is the first repeat of all
  pub lowest_initial : (k : ℕ) → Lowest (Again (initials ws)) k → Lowest (Repeated ws) (4 + k)
  lowest_initial k low = record {
    here = initial low.here.earlier k low.here.before (omega (arith, low.here.within, long_initials m)) (low.here.same 0) refl;
    none_below = below;
  } where
    below : (i : ℕ) → i < 4 + k → Repeated ws i → ⊥
    below i under (initial j l less within same at) =
        low.none_below l (omega (arith, at)) (record {
          within = omega (arith, long_initials m);
          earlier = j;
          before = less;
          same = λ d. get_or_default (initials ws) j d 0 (omega (arith, long_initials m)) ∙ same ∙ get_or_default (initials ws) l 0 d (omega (arith, long_initials m));
        })
    below i under (arc r j l less within same at) = omega (arith, at, low.here.within, long_initials m)

-- the arcs of a part of the arrays are a part of the arcs
pub paired_part : (from n : ℕ) (es ts : List ℕ) → length ts ≡ length es → paired (part from n es) (part from n ts) ≡ part from n (paired es ts)
paired_part from n es ts long = paired_take n (drop from es) (drop from ts) ∙ ap (take n) (paired_drop from es ts long)

-- where nothing is repeated, initial states and the arcs of each state are distinct
module _ {ws : List ℕ} (m : Measured ws) (apart : (i : ℕ) → Repeated ws i → ⊥) where
  pub distinct_initials : Distinct (initials ws)
  distinct_initials i j same = apart (4 + j) (initial i j same.0 (omega (arith, same.1, long_initials m)) (same.2 0) refl)

  pub distinct_arcs : (s : ℕ) → Distinct (arcs_of ws s)
  distinct_arcs s i j same =
      apart (at_events ws + (before ws s + j))
      (arc s i j same.0 (omega (arith, same.1, part_short (all_arcs ws) (before ws s) (get_or (counts ws) s 0))) (same.2 no_arc) refl)
