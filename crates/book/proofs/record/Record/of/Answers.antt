use Rattle.std.proofs.Common.{◌≡◌, ◌≢◌, ℕ, zero, suc, ◌+◌, ◌<◌, ◌≤◌, List, length, get_or, take, sym, ◌∙◌, subst, ⊎_elim, arith, rules}
use Rattle.std.specs.Fn.{Called}
use Rattle.std.specs.Array.{IsFromFnResultFrom}
use Rattle.std.proofs.lemmas.List.{ext_get_or, get_or-take, get_or_default, length-take-le}
use Rattle.std.proofs.lemmas.Bool.{cases_eq}
use Rattle.meaning.specs.Systems.{no_arc}
use Rattle.plant.specs.Model.{past_arc}
use denote.Param.Members.{Mut}
use Rattle.book.proofs.record.Record.of.Goals as goal

-- what a closure that stays as it is gives call by call stands in the array
made : {F B : Type 0} (g : Mut F (ℕ × Unit {0}) B) (f : F) (d : B) (ys : List B) (P : ℕ → B → Type 0) → ((x : ℕ) (y : B) (q : F) → Called g f (x, tt) y q → (q ≡ f) × P x y) → (i n : ℕ) → IsFromFnResultFrom g f ys i n → (j : ℕ) → i ≤ j → j < i + n → P j (get_or ys j d)
made g f d ys P call i zero each j ge lt = absurd (omega arith)
made g f d ys P call i (suc n) each j ge lt =
    let here = call i each.1 each.0 each.3 in
    ⊎_elim
    (λ (e : j ≡ i). subst (λ m. P m (get_or ys m d)) (sym e) (subst (P i) (sym (each.2.1 d)) here.1))
    (λ (e : j ≢ i). made g f d ys P call (i + 1) n (subst (λ p. IsFromFnResultFrom g p ys (i + 1) n) here.0 each.4) j (omega arith) (omega arith))
    (cases_eq j i)

pub returns-clause-few : goal.returns-clause-few
returns-clause-few g c =
    let law = g.P.Plant.lawful c.args.plant.now in
    omega (arith, law.branches.0 c.args.state, law.limits.4, c.arc_count-count.ensures)

pub returns-clause-said : goal.returns-clause-said
returns-clause-said g c =
    let M = g.P.Plant.model c.args.plant.now in
    let s = c.args.state in
    let n = c.arc_count-count.result in
    let law = g.P.Plant.lawful c.args.plant.now in
    let few : n ≤ 16 = omega (arith, law.branches.0 s, law.limits.4, c.arc_count-count.ensures) in
    let each = made _ _ no_arc c.from_fn-arcs.result (λ i y. i < n → y ≡ get_or (M.system.arcs s) i past_arc) (λ x y q k. search rules) 0 16 c.from_fn-arcs.ensures.items.each in
    let long : length (take n c.from_fn-arcs.result) ≡ n = length-take-le n c.from_fn-arcs.result (omega (arith, c.from_fn-arcs.ensures.items.long)) in
    let arcs : take n c.from_fn-arcs.result ≡ M.system.arcs s =
    ext_get_or no_arc (take n c.from_fn-arcs.result) (M.system.arcs s) (long ∙ c.arc_count-count.ensures)
    (λ i lt. get_or-take n c.from_fn-arcs.result i no_arc (omega arith) ∙ each i (omega arith) (omega arith) (omega arith) ∙ get_or_default (M.system.arcs s) i past_arc no_arc (omega arith)) in
    λ k. record { facts = c.facts.ensures k; arcs = arcs k }
