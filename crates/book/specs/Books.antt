-- What a book stands for. Relies on Records and refusal's causes.
use Rattle.std.specs.Prelude.{◌≡◌, ℕ, ◌<◌, List, [], length, IsTrue, IsSome, Some, None, Option, slice_index_or}
use Rattle.std.specs.Option.{option_map}
use Rattle.refusal.specs.declared.Refusal.{Refusal}
use Rattle.refusal.specs.declared.Layer.TheVariants.{Session}
use Rattle.refusal.specs.Causes.{Gives}
use Rattle.meaning.specs.declared.Arc.{Arc}
use Rattle.book.specs.Records.{Saying, saying_of, names, look, open_states}
use Rattle.book.specs.declared.book.Book.{Book}
use Rattle.book.specs.declared.edits.NotAdded.{NotAdded}
use Rattle.book.specs.declared.edits.NotAdded.TheVariants.{Present, Full}

-- what the book says of each state
abbrev pub book_of : Book → ℕ → Option Saying
book_of b = look b.records

-- the states that are open
abbrev pub opened : Book → List ℕ
opened b = open_states b.records

-- what stands at a place
abbrev pub placed : Book → ℕ → Option Saying
placed b i = option_map saying_of (slice_index_or b.records i None)

-- the facts that are said
abbrev pub facts_of : Saying → ℕ
facts_of said = said.facts

-- the arcs that are said; none where nothing is
abbrev pub arcs_in : Option Saying → List Arc
arcs_in None = []
arcs_in (Some said) = said.arcs

-- why a state was not added
abbrev pub WhyNot : Book → ℕ → NotAdded → Type 0
WhyNot b s Present = IsSome (book_of b s)
WhyNot b s Full = (book_of b s ≡ None) × (length (opened b) ≡ 256)

-- the refusal of a state that was not added
abbrev pub Refuses : NotAdded → Refusal → Type 0
Refuses Present r = Gives r 41 Session 0
Refuses Full r = Gives r 42 Session 0

-- the record of a state stands at a place
pub record PlaceOf (b : Book) (s i : ℕ) : Type 0 where
  pub within : i < 256
  pub named : IsTrue (names (slice_index_or b.records i None) s)
  pub found : placed b i ≡ book_of b s
  pub known : IsSome (book_of b s)
