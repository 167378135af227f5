-- What a book tells of a system. Relies on book.
use Rattle.std.specs.Prelude.{ℕ, Bool, List, is_some, Some, None, Option}
use Rattle.meaning.specs.Systems.{System}
use Rattle.meaning.specs.Runs.{Run}
use Rattle.plant.specs.Model.{Model}
use Rattle.book.specs.Records.{Saying}
use Rattle.book.specs.Books.{book_of, arcs_in}
use Rattle.book.specs.declared.book.Book.{Book}
use Rattle.runs.specs.declared.arrays.Arrays.{Arrays}

-- the facts that are said; none where nothing is
abbrev pub facts_in : Option Saying → ℕ
facts_in None = 0
facts_in (Some said) = said.facts

-- the system that a book tells of, with these initial states: nothing is known of closed states
abbrev pub told : Book → List ℕ → System
told b initial = record { facts = λ s. facts_in (book_of b s); arcs = λ s. arcs_in (book_of b s); initial = initial }

abbrev pub opens : Book → ℕ → Bool
opens b s = is_some (book_of b s)

-- the system that a book tells of, over a plant's initial states
abbrev pub view : Book → Model → System
view b M = told b M.system.initial

-- the run that lent arrays write down
abbrev pub run_of : Arrays → Run
run_of a = record { states = a.states.now; events = a.events.now; back = a.back }
