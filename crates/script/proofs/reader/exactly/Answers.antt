use Rattle.std.proofs.Common.{sym, subst}
use Rattle.std.proofs.lemmas.Option.{MatchOption-at_some}
use Rattle.script.specs.Values.{Numbers}
use Rattle.script.proofs.Once.{exact}
use Rattle.script.proofs.reader.exactly.Goals as goal

pub returns : goal.returns
returns g c =
    let has = MatchOption-at_some _ _ c.in-Some.all c.in-Some.is c.in_ok-all.ensures in
    rw c.ok.ensures.value (exact c.args.rest.now g.row.N c.as_slice.result.now c.try_from.result (subst (Numbers c.args.rest.now) (sym c.as_slice.ensures.value) has) c.try_from.ensures)
