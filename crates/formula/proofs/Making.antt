-- What a formula made of words keeps. Assumes nothing.
use Rattle.std.proofs.Common.{◌≡◌, ℕ, suc, ◌-◌, ◌<◌, ◌≤◌, true, List, [], ◌∷◌, length, get_or, take, refl, ap, ◌∙◌, subst, arith}
use Rattle.std.proofs.lemmas.Bool.{and_from}
use Rattle.formula.specs.Stack.{in_range, sound, depth, tree}
use Rattle.formula.specs.Table.{table, ranged, weight}
use Rattle.formula.specs.Words.{Counted, Lists, Granted}
use Rattle.formula.specs.declared.entry.Entry.{Entry}
use Rattle.formula.specs.declared.entry.Entry.TheVariants.{True}
use Rattle.formula.proofs.Stacks.{whole}

each_in_range : (es : List Entry) → ((i : ℕ) → i < length es → ranged (get_or es i True) ≡ true) → in_range es ≡ true
each_in_range [] h = refl
each_in_range (e ∷ es) h = and_from (ranged e) (in_range es) (h 0 (omega arith)) (each_in_range es (λ i lt. h (suc i) (omega arith)))

pub lists_in_range : {ws : List ℕ} {es : List Entry} → Lists ws es → in_range es ≡ true
lists_in_range {ws} {es} l = each_in_range es (λ i lt. (l.each i (omega (arith, l.long))).within_range)

-- entries that keep every rule
pub made : {ws : List ℕ} (es : List Entry) → Counted ws → Lists ws es → (sound 0 es ≡ true) × (depth 0 es ≡ 1) → weight es ≤ 10 → Granted ws es
made es counted lists joined few = record {
  counted = counted;
  lists = lists;
  formed = record { tree = tree es; whole = whole es joined.0 joined.1; few = few };
}
