use Rattle.std.proofs.Common.{◌<◌, length, rules}
use Rattle.std.proofs.lemmas.List.{nil_from_length}
use Rattle.script.proofs.Cuts.{cut_length}
use Rattle.script.proofs.lines.first_line.Goals as goal

pub returns-then-is_empty : goal.returns-then-is_empty
returns-then-is_empty c = record { cases = nil_from_length c.args.script.now (search rules); less = tt }

pub returns-else-is_empty : goal.returns-else-is_empty
returns-else-is_empty c =
    let some : 0 < length c.args.script.now = search rules in
    record { cases = c.cut.ensures; less = cut_length c.cut.ensures some }
