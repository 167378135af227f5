-- What a draft has been given. Assumes nothing.
use Rattle.std.specs.Prelude.{◌≡◌, ℕ, ◌<◌, ◌≤◌, List, [], ◌∷◌, ◌++◌, length, MatchOption, slice_index_or}
use Rattle.formula.specs.declared.entry.Entry.{Entry}
use Rattle.formula.specs.declared.entry.Entry.TheVariants.{True, Not, Or, Next, Until}
use Rattle.draft.specs.declared.draft.Draft.{Draft}
use Rattle.grammar.specs.declared.Joint.{Joint}
use Rattle.grammar.specs.declared.Joint.TheVariants.{Or as Bar, And, Implies, Until as Till}
use Rattle.grammar.specs.declared.Prefix.{Prefix}
use Rattle.grammar.specs.declared.Prefix.TheVariants.{Not as Bang, Next as Ex, Finally, Globally}

-- a draft of the entries es: counted up to 48, and no number for more; the first 48 kept
pub record Drafted (d : Draft) (es : List Entry) : Type 0 where
  pub counted : MatchOption d.count (48 < length es) (λ n. (n ≡ length es) × (n ≤ 48))
  pub each : (i : ℕ) → i < 48 → i < length es → slice_index_or d.entries i True ≡ slice_index_or es i True

-- the entries `new` stand behind those that stood there
abbrev pub Adds : Draft → Draft → List Entry → Type 0
Adds had has new = (es : List Entry) → Drafted had es → Drafted has (es ++ new)

-- the entries before the part of a prefix, and those behind it
abbrev pub front : Prefix → List Entry
front Bang = []
front Ex = []
front Finally = True ∷ []
front Globally = True ∷ []

abbrev pub rear : Prefix → List Entry
rear Bang = Not ∷ []
rear Ex = Next ∷ []
rear Finally = Until ∷ []
rear Globally = Not ∷ Until ∷ Not ∷ []

-- the entries between the parts of a phrase of two, and those behind them
abbrev pub between : Joint → List Entry
between Bar = []
between And = Not ∷ []
between Implies = Not ∷ []
between Till = []

abbrev pub behind : Joint → List Entry
behind Bar = Or ∷ []
behind And = Not ∷ Or ∷ Not ∷ []
behind Implies = Or ∷ []
behind Till = Until ∷ []
