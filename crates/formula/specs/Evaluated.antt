-- What evaluating one formula of a table answers. Assumes nothing.
use Rattle.std.specs.Prelude.{◌≡◌, ℕ, ◌+◌, ◌-◌, Bool, List, take}
use Rattle.formula.specs.Atoms.{atom, value, width}
use Rattle.formula.specs.Stack.{sub}
use Rattle.formula.specs.Table.{size, weight}
use Rattle.formula.specs.declared.entry.Entry.{Entry}
use Rattle.formula.specs.declared.evaluate.Part.{Part}

-- how many elementary entries stand before the formula that ends at entry i
abbrev pub offset_of : List Entry → ℕ → ℕ
offset_of es i = weight (take (i + 1 - size (sub es i)) es)

-- what the atom in a word makes of the formula that ends at entry i
abbrev pub value_at : List Entry → ℕ → ℕ → Bool
value_at es i word = value (sub es i) (atom (sub es i) (offset_of es i) word)

-- p is what the atom in a word makes of the formula that ends at entry i, where `count` elementary entries stand up to i
pub record Evaluated (es : List Entry) (i count word : ℕ) (p : Part) : Type 0 where
  -- how many elementary entries stand before that formula
  pub offset : ℕ
  pub counted : count ≡ offset + width (sub es i)
  pub value_is : p.holds ≡ value (sub es i) (atom (sub es i) offset word)
  pub size_is : p.entries ≡ size (sub es i)
  pub width_is : p.elementary ≡ width (sub es i)
