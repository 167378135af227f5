use Rattle.std.proofs.Common.{◌<◌, length, rules}
use Rattle.script.proofs.Cuts.{solid_some}
use Rattle.script.proofs.spacing.first_word.Goals as goal

pub returns-else-is-empty : goal.returns-else-is-empty
returns-else-is-empty c = let some : 0 < length c.after-gap-from.result.now = search rules in record {
  from = c.after-gap-from.result.now;
  skips = c.after-gap-from.ensures;
  ends = c.cut.ensures;
  some = solid_some _ _ _ some c.after-gap-from.ensures.dark c.cut.ensures;
}
