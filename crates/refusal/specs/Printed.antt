-- What is printed of a refusal. Relies on Causes.
use Rattle.std.specs.Prelude.{ℕ, List, ◌++◌, codes, decimal}
use Rattle.refusal.specs.declared.Layer.{Layer}
use Rattle.refusal.specs.declared.Layer.TheVariants.{Formula, Text, Plant, Session}
use Rattle.refusal.specs.declared.Refusal.{Refusal}
use Rattle.refusal.specs.Causes.{number_of, layer_of}

-- the name of a layer
abbrev pub name_of_layer : Layer → List ℕ
name_of_layer Formula = codes "formula"
name_of_layer Text = codes "text"
name_of_layer Plant = codes "plant"
name_of_layer Session = codes "session"

-- a refusal's number, layer and place
abbrev pub refused_line : Refusal → List ℕ
refused_line r = codes "refused " ++ (decimal (number_of r.cause) ++ (codes " " ++ (name_of_layer (layer_of r.cause) ++ (codes " " ++ decimal r.place))))
