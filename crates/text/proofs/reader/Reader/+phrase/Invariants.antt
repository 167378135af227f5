use Rattle.std.proofs.Common.{length}
use Rattle.text.specs.Spelled.{left}
use Rattle.text.proofs.reader.Reader.+phrase.Given as goal

abbrev pub decreases-phrase : goal.decreases-phrase
decreases-phrase l = length (left l.self.now)
