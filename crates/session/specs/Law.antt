-- The law of a session: how each call is answered after a history. Relies on History, plant's models and refusal's tables.
use Rattle.std.specs.Prelude.{◌≡◌, ℕ, ◌≤◌, IsTrue, IsFalse, List, [], ◌∷◌, length, is_some, IsSome, None, Option, MatchOption}
use Rattle.std.specs.Option.{ForSome}
use Rattle.refusal.specs.declared.Layer.TheVariants.{Session}
use Rattle.refusal.specs.Rows.{Row, Clear, First}
use Rattle.meaning.specs.Systems.{System}
use Rattle.plant.specs.Model.{Model, initial_at, arc_at}
use Rattle.book.specs.Records.{Saying, says}
use Rattle.session.specs.History.{Asked, open_state, forget, begin, step, leave, Told, done, reached, refused, Turn, is_open, walk_of, Lists}

-- a row that names no place
abbrev pub row : ℕ → Type 0 → Row
row n P = record { number = n; layer = Session; applies = λ i. P × (i ≡ 0) }

-- a walk is under way
abbrev pub Walking : List Turn → Type 0
Walking h = IsSome (walk_of h)

-- 256 states are open
abbrev pub Full : List Turn → Type 0
Full h = (ss : List ℕ) × Lists h ss × (length ss ≡ 256)

-- P of the walk's state, where a walk is under way
abbrev pub Here : List Turn → (ℕ → Type 0) → Type 0
Here h P = MatchOption (walk_of h) ⊥ P

-- what is refused, in its order
abbrev pub refusals : Model → List Turn → Asked → List Row
refusals M h (open_state s) = row 41 (IsTrue (is_open h s)) ∷ row 42 (Full h) ∷ []
refusals M h (forget s) = row 47 (Walking h) ∷ row 43 (IsFalse (is_open h s)) ∷ []
refusals M h (begin i) = row 47 (Walking h) ∷ row 49 (length M.system.initial ≤ i) ∷ []
refusals M h (step j) =
    row 48 (walk_of h ≡ None)
    ∷ row 43 (Here h (λ s. IsFalse (is_open h s)))
    ∷ row 49 (Here h (λ s. length (M.system.arcs s) ≤ j))
    ∷ []
refusals M h leave = row 48 (walk_of h ≡ None) ∷ []

-- what a call that is granted is answered
abbrev pub Grants : Model → List Turn → Asked → Told → Type 0
Grants M h (open_state s) t = t ≡ done
Grants M h (forget s) t = t ≡ done
Grants M h (begin i) t = t ≡ reached (initial_at M i)
Grants M h (step j) t = Here h (λ s. t ≡ reached (arc_at M s j).target)
Grants M h leave t = t ≡ done

-- a call is granted where no row of refusals applies, and else refused by the first that does
abbrev pub Right : Model → List Turn → Asked → Told → Type 0
Right M h c done = Clear (refusals M h c) × Grants M h c done
Right M h c (reached s) = Clear (refusals M h c) × Grants M h c (reached s)
Right M h c (refused r) = First (refusals M h c) r

-- every call of the history was answered right after those before it
abbrev pub AllRight : Model → List Turn → Type 0
AllRight M [] = Unit {0}
AllRight M (x ∷ h) = Right M h x.asked x.told × AllRight M h

-- what a book says of its open states is what the system does
abbrev pub Exact : System → (ℕ → Option Saying) → Type 0
Exact M book = (s : ℕ) → ForSome (book s) (λ (said : Saying). said ≡ says M s)

-- a book and a walk are what a history leaves: each of its calls was answered right, the book has the open states and no others,
-- and the walk is the history's
pub record Kept (M : Model) (book : ℕ → Option Saying) (walk : Option ℕ) (h : List Turn) : Type 0 where
  pub right : AllRight M h
  pub opened : (s : ℕ) → is_some (book s) ≡ is_open h s
  pub walking : walk ≡ walk_of h
