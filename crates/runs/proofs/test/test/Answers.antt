use Rattle.std.proofs.Common.{◌≡◌, ℕ, ◌*◌, ◌<◌, ◌≤◌, Some, Decides, MatchOption, length, sym, subst, arith}
use Rattle.std.proofs.lemmas.Option.{MatchOption-at_some}
use Rattle.std.proofs.lemmas.Result.{err_from_is_err_and}
use Rattle.refusal.specs.Rows.{Lowest}
use Rattle.formula.specs.View.{entries_of, tree_of}
use Rattle.meaning.specs.Runs.{places, Satisfies}
use Rattle.runs.specs.Tests.{Beyond, Bad}
use Rattle.runs.specs.Faults.{Faulty}
use Rattle.runs.specs.Known.{opens, view, run_of}
use Rattle.runs.proofs.Refused.{by_fault, tested}
use Rattle.runs.proofs.test.test.Goals as goal

pub returns-in_err-run_stands-clause-answer : goal.returns-in_err-run_stands-clause-answer
returns-in_err-run_stands-clause-answer g c =
    let b = c.args.book.now in
    let M = g.P.Plant.model c.args.plant.now in
    let es = entries_of c.args.formula.now in
    let r = run_of c.args.arrays in
    let some : c.shaped.result ≡ Some c.in_ok-run.run' = grind arith in
    let shaped = MatchOption-at_some _ _ _ some c.shaped.ensures in
    let none : (i : ℕ) → Beyond M.events es i → ⊥ = λ i beyond. c.in_default.ensures i (subst (λ l. Beyond c.events.result l i) (sym c.entries.ensures) (subst (λ E. Beyond E es i) (sym c.events.ensures) beyond)) in
    let p = err_from_is_err_and c.from_residual-in_err-run_stands.result c.from_residual-in_err-run_stands.ensures.1 in
    let f = c.in_err-run_stands.ensures in
    let low = subst (λ q. Lowest (Bad (opens b) (view b M) q) f.0) shaped.1 f.1 in
    let fault = subst (λ q. Faulty (opens b) (view b M) q f.0 c.in_err-run_stands.field-0.0) shaped.1 f.2 in
    rw (p.1, p.2) (by_fault M.events (opens b) (view b M) es r (length c.args.cells.now) none shaped.0 f.0 low fault)

pub returns-clause-answer : goal.returns-clause-answer
returns-clause-answer g c =
    let b = c.args.book.now in
    let M = g.P.Plant.model c.args.plant.now in
    let es = entries_of c.args.formula.now in
    let r = run_of c.args.arrays in
    let some : c.shaped.result ≡ Some c.in_ok-run.run' = grind arith in
    let shaped = MatchOption-at_some _ _ _ some c.shaped.ensures in
    let none : (i : ℕ) → Beyond M.events es i → ⊥ = λ i beyond. c.in_default.ensures i (subst (λ l. Beyond c.events.result l i) (sym c.entries.ensures) (subst (λ E. Beyond E es i) (sym c.events.ensures) beyond)) in
    let fine = subst (λ q. (i : ℕ) → Bad (opens b) (view b M) q i → ⊥) shaped.1 c.in_ok-run_stands.ensures in
    let answer =
    subst (λ q. MatchOption c.test.result (length c.args.cells.now < length es * places q) (λ b'. (length es * places q ≤ length c.args.cells.now) × Decides b' (Satisfies (view b M) q (tree_of c.args.formula.now)))) shaped.1 c.test.ensures.answer in
    rw c.ok_or-2.ensures.value (tested M.events (opens b) (view b M) es r (length c.args.cells.now) none shaped.0 fine _ c.test.result c.at-3.result c.at-3.ensures answer)
