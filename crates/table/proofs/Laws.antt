-- Words that keep every rule mean a lawful plant, and the parts read from them stand for it.
-- Relies on Lookups, Paired, Ranges and Apart.
use Rattle.std.proofs.Common.{◌≡◌, ℕ, zero, suc, ◌+◌, ◌^◌, ◌<◌, ◌≤◌, max, List, [], ◌∷◌, length, get_or, vec_items, vec_len, fold, sym, ap, ◌∙◌, subst, ⊎_elim, arith}
use Rattle.std.proofs.lemmas.List.{get_or_past}
use Rattle.std.proofs.lemmas.Bool.{cases_lt}
use Rattle.refusal.specs.Rows.{Clear}
use Rattle.meaning.specs.declared.Arc.{Arc}
use Rattle.meaning.specs.Systems.{no_arc}
use Rattle.plant.specs.Model.{Lawful}
use Rattle.table.specs.Words.{state_count, arc_count, at_facts, part, facts, counts, events, targets, all_arcs, arcs_of, largest, meant}
use Rattle.table.specs.Refused.{rows}
use Rattle.table.specs.Parts.{facts_at, arcs_at, model_of}
use Rattle.table.specs.declared.parts.State.{State}
use Rattle.std.specs.Option.{option_map_or}
use Rattle.std.specs.List.{All}
use Rattle.std.proofs.lemmas.Option.{slice_get_past}
use Rattle.table.specs.Measured.{Kept}
use Rattle.table.specs.Granted.{Read}
use Rattle.table.specs.declared.parts.Parts.{Parts}
use Rattle.table.proofs.Lookups.{part_at, part_short, part_inside}
use Rattle.table.proofs.Paired.{arc, get_d_paired}
use Rattle.table.proofs.Ranges.{long_initials, long_facts, long_counts, long_events, long_targets, at_least, at_most, low_initials, low_counts, low_events, low_targets}
use Rattle.table.proofs.Apart.{before, long_arcs, distinct_initials, distinct_arcs}

pub clear : {ws : List ℕ} → Kept ws → Clear (rows ws)
clear k = (
  λ i f. f.0 k.measured.some,
  (
    λ i l. k.measured.limits i l.here,
    (
      λ i f. f.0 k.measured.long,
      (λ i l. k.ranged i l.here, (λ i f. f.0 k.adds, (λ i l. k.apart i l.here, tt))),
    ),
  ),
)

-- the largest of numbers is no less than any, and at most what bounds all
largest_from : (xs : List ℕ) (a : ℕ) → a ≤ fold max a xs
largest_from [] a = omega arith
largest_from (x ∷ xs) a = omega (arith, largest_from xs (max a x))

largest_of : (xs : List ℕ) (a k : ℕ) → k < length xs → get_or xs k 0 ≤ fold max a xs
largest_of [] a k lt = absurd (omega arith)
largest_of (x ∷ xs) a zero lt = omega (arith, largest_from xs (max a x))
largest_of (x ∷ xs) a (suc k) lt = largest_of xs (max a x) k (omega arith)

largest_under : (xs : List ℕ) (a m : ℕ) → a ≤ m → ((k : ℕ) → k < length xs → get_or xs k 0 ≤ m) → fold max a xs ≤ m
largest_under [] a m low all = low
largest_under (x ∷ xs) a m low all =
    let first : x ≤ m = all 0 (omega arith) in
    largest_under xs (max a x) m (omega arith) (λ k lt. all (suc k) (omega arith))

module _ {ws : List ℕ} (kept : Kept ws) where
  pub narrow : largest (counts ws) ≤ 16
  narrow = largest_under (counts ws) 0 16 (omega arith) (λ k lt. omega (arith, low_counts kept.measured kept.ranged k lt))

  -- an arc of a state is one of all
  arc_at : (s i : ℕ) → i < length (arcs_of ws s) → (k : ℕ) × (k < arc_count ws) × (get_or (arcs_of ws s) i no_arc ≡ arc (get_or (events ws) k 0) (get_or (targets ws) k 0))
  arc_at s i lt =
      let m = kept.measured in
      let inside = part_inside (all_arcs ws) (before ws s) (get_or (counts ws) s 0) i lt in
      let k = before ws s + i in
      let within : k < arc_count ws = omega (arith, inside.1, long_arcs m) in
      (k, within, part_at (all_arcs ws) (before ws s) (get_or (counts ws) s 0) i no_arc inside.0 ∙ get_d_paired (events ws) (targets ws) k no_arc (long_targets m ∙ sym (long_events m)) (omega (arith, long_events m)))

  few_arcs : (s : ℕ) → length (arcs_of ws s) ≤ largest (counts ws)
  few_arcs s =
      let short = part_short (all_arcs ws) (before ws s) (get_or (counts ws) s 0) in
      ⊎_elim
      (λ lt. omega (arith, short, largest_of (counts ws) 0 s lt))
      (λ ge. omega (arith, short, get_or_past (counts ws) s 0 ge))
      (cases_lt s (length (counts ws)))

  word : (s : ℕ) → get_or (facts ws) s 0 < 2 ^ 32
  word s =
      ⊎_elim
      (λ lt. omega (arith, part_at ws (at_facts ws) (state_count ws) s 0 lt, kept.measured.fits (at_facts ws + s)))
      (λ ge. omega (arith, get_or_past (facts ws) s 0 (omega (arith, long_facts kept.measured))))
      (cases_lt s (state_count ws))

  pub lawful : Lawful (meant ws)
  lawful =
      let m = kept.measured in
      record {
        limits = (at_least m 1 (omega arith), at_most m 1 (omega arith), at_least m 0 (omega arith), omega (arith, at_most m 0 (omega arith)), narrow);
        begins = (omega (arith, long_initials m, at_most m 2 (omega arith)), distinct_initials m kept.apart, low_initials m kept.ranged);
        branches = (few_arcs, distinct_arcs m kept.apart);
        leads = (
          λ s i lt. let a = arc_at s i lt in omega (arith, low_events m kept.ranged a.0 (omega (arith, a.1, long_events m)), ap (λ (x : Arc). x.event) a.2),
          λ s i lt. let a = arc_at s i lt in omega (arith, low_targets m kept.ranged a.0 (omega (arith, a.1, long_targets m)), ap (λ (x : Arc). x.target) a.2),
        );
        ends = (
          word,
          λ s ge. get_or_past (facts ws) s 0 (omega (arith, long_facts m)),
          λ s ge. omega (arith, part_short (all_arcs ws) (before ws s) (get_or (counts ws) s 0), get_or_past (counts ws) s 0 (omega (arith, long_counts m))),
        );
      }

  module _ {p : Parts} (read : Read ws p) where
    facts_are : (s : ℕ) → facts_at (vec_items p.states) s ≡ get_or (facts ws) s 0
    facts_are s =
        ⊎_elim
        (λ lt. read.stated.by_facts s lt)
        (λ ge.
        ap (λ o. option_map_or (λ (t : State). t.facts) o 0) (slice_get_past (vec_items p.states) s (omega (arith, ge, read.stated.many)))
        ∙ sym (get_or_past (facts ws) s 0 (omega (arith, ge, long_facts kept.measured))))
        (cases_lt s (state_count ws))

    arcs_are : (s : ℕ) → arcs_at (vec_items p.arcs) (vec_items p.states) s ≡ arcs_of ws s
    arcs_are s =
        ⊎_elim
        (λ lt. ap (λ arcs. arcs_at arcs (vec_items p.states) s) read.arcs ∙ read.stated.by_arcs s lt)
        (λ ge.
        let none : get_or (counts ws) s 0 ≡ 0 = get_or_past (counts ws) s 0 (omega (arith, ge, long_counts kept.measured)) in
        ap (λ o. option_map_or (λ (t : State). part t.from t.count (vec_items p.arcs)) o []) (slice_get_past (vec_items p.states) s (omega (arith, ge, read.stated.many)))
        ∙ sym (ap (λ n. part (before ws s) n (all_arcs ws)) none))
        (cases_lt s (state_count ws))

    pub means : model_of p ≡ meant ws
    means = λ i. record {
      events = read.events i;
      extent = read.stated.many i;
      width = read.width i;
      system = record { facts = λ s. facts_are s i; arcs = λ s. arcs_are s i; initial = read.initial i };
    }

    -- the arcs of each state stand among all
    pub arcs_inside : All (λ (t : State). t.from + t.count ≤ vec_len p.arcs) (vec_items p.states)
    arcs_inside k d lt = omega (arith, read.stated.inside k d lt, ap length read.arcs, long_arcs kept.measured)

    pub parts_lawful : Lawful (model_of p)
    parts_lawful = subst Lawful (sym means) lawful
