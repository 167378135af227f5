use Rattle.std.proofs.Common.{ℕ, ◌<◌, Bool, inl, inr, ⊎_elim, arith, below_more}
use Rattle.std.proofs.lemmas.Result.{err_from_is_err_and}
use Rattle.refusal.specs.declared.Refusal.{Refusal}
use Rattle.meaning.specs.Systems.{System}
use Rattle.meaning.specs.Runs.{Run, places}
use Rattle.rows.specs.Cells.{run_of}
use Rattle.runs.specs.Tests.{Wrong, start, arc, ending, Bad}
use Rattle.runs.specs.Faults.{Faulty}
use Rattle.runs.specs.Known.{opens, view}
use Rattle.runs.proofs.faults.Known.run_stands.Goals as goal

bad_of : (opened : ℕ → Bool) (M : System) (r : Run) (i : ℕ) (e : Refusal) → Faulty opened M r i e → Bad opened M r i
bad_of opened M r i e fault = ⊎_elim (λ closed. inl closed.0) (λ wrong. inr wrong.1) fault

-- a bad place is one of the run's
inside_wrong : (M : System) (r : Run) (i : ℕ) → 0 < places r → Wrong M r i → i < places r
inside_wrong M r i some (start e none) = omega (arith, e)
inside_wrong M r i some (arc lt none) = omega (arith, lt)
inside_wrong M r i some (ending e none) = omega (arith, e)

inside : (opened : ℕ → Bool) (M : System) (r : Run) (i : ℕ) → 0 < places r → Bad opened M r i → i < places r
inside opened M r i some bad = ⊎_elim (λ closed. closed.0) (inside_wrong M r i some) bad

pub loop-place-preserved : goal.loop-place-preserved
loop-place-preserved g c = below_more _ _ c.loop-place.invariant c.in_ok-place_stands.ensures

pub returns-in_err-place_stands : goal.returns-in_err-place_stands
returns-in_err-place_stands g c =
    let b = c.args.self.now.book.now in
    let M = g.P.Plant.model c.args.self.now.plant.now in
    let p = err_from_is_err_and c.from_residual.result c.from_residual.ensures.1 in
    let f = c.in_err-place_stands.ensures in
    let i = c.loop-place.place in
    rw (p.1, p.2) (i, record { here = bad_of (opens b) (view b M) (run_of c.args.run.now) i c.in_err-place_stands.field-0.0 f; none_below = c.loop-place.invariant }, f)

pub returns : goal.returns
returns g c = λ i bad.
    let b = c.args.self.now.book.now in
    let M = g.P.Plant.model c.args.self.now.plant.now in
    c.loop-place.invariant i (omega (arith, c.loop-place-test.false, inside (opens b) (view b M) (run_of c.args.run.now) i (omega (arith, c.args.run.now.some)) bad)) bad
