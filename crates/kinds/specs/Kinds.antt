-- A plant of any kind stands for what its kind does. Relies on plant's models, table and rule.
use Rattle.plant.specs.Model.{Model, Lawful}
use Rattle.table.specs.Parts.{model_of as table_model}
use Rattle.guarded.specs.Made.{model_of as rule_model}
use Rattle.guarded.proofs.Laws.{lawful as rule_lawful}
use Rattle.kinds.specs.declared.AnyPlant.{AnyPlant}
use Rattle.kinds.specs.declared.AnyPlant.TheVariants.{Table, Rule}

abbrev pub any_model : AnyPlant → Model
any_model (Table p) = table_model p.parts
any_model (Rule p) = rule_model p.parts

-- each kind is lawful, so is any
abbrev pub any_lawful : (p : AnyPlant) → Lawful (any_model p)
any_lawful (Table p) = p.lawful
any_lawful (Rule p) = rule_lawful p.parts p.few p.ranged
