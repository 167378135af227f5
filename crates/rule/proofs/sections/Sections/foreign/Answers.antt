use Rattle.std.proofs.Common.{◌≡◌, ℕ, ◌+◌, ◌-◌, ◌%◌, ◌≤◌, List, length, get_or, refl, sym, ap, ◌∙◌, subst, arith, rules, tests}
use Rattle.std.proofs.lemmas.Iterator.{first_from_find, YieldsList-from_range}
use Rattle.rule.specs.Words.{variables, sizes}
use Rattle.rule.proofs.Spots.{long_sizes, lowest_foreign}
use Rattle.rule.proofs.sections.Sections.foreign.Goals as goal

-- the word at place i is neither 255 nor below its variable's size, of the sizes ns of v variables
abbrev Hit : List ℕ → List ℕ → ℕ → ℕ → Type 0
Hit ws ns v i = (get_or ws i 0 ≡ 255 → ⊥) × (get_or ns ((i - (2 + v)) % v) 0 ≤ get_or ws i 0)

pub returns : goal.returns
returns c =
    let t = c.args.self.now in
    let ws = t.words.now in
    let width : length t.sizes.now ≡ variables ws = ap length t.by_sizes ∙ long_sizes ws t.shaped in
    let from = 2 + length t.sizes.now in
    let same : (i : ℕ) → Hit ws t.sizes.now (length t.sizes.now) i ≡ Hit ws (sizes ws) (variables ws) i = λ i j. Hit ws (t.by_sizes j) (width j) i in
    lowest_foreign ws t.shaped (Hit ws t.sizes.now (length t.sizes.now)) (λ i h. subst (λ (T : Type 0). T) (same i) h) (λ i h. subst (λ (T : Type 0). T) (sym (same i)) h)
    from (length ws - from) c.find.result (ap (λ n. 2 + n) width) (omega (arith, width, t.shaped.long))
    (first_from_find _ _ c.find.result (Hit ws t.sizes.now (length t.sizes.now)) (λ i. Hit ws t.sizes.now (length t.sizes.now) i → ⊥) c.find.ensures.ran (YieldsList-from_range from (length ws) (length ws - from) refl refl) (λ x q k. search (rules, tests)) (λ x q k. search (rules, tests)))
