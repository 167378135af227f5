use Rattle.std.proofs.Common.{[], ap, ◌∙◌}
use Rattle.std.proofs.lemmas.List.{drop_more, drop_all}
use Rattle.grammar.specs.Machine.{outcome}
use Rattle.text.proofs.reader.Reader.whole.Goals as goal

pub returns-then-self : goal.returns-then-self
returns-then-self c = c.in_ok-phrase.ensures.took.goes [] ∙ ap (outcome [] c.phrase.new.self.at) (drop_more _ _ 0 c.if-self.true)

pub returns : goal.returns
returns c = (c.in_ok-phrase.ensures, drop_all _ _ c.if-self.false)
