-- When a session is what a history leaves, and what a call does to it. Relies on Law.
use Rattle.std.specs.Prelude.{◌≡◌, IsFalse, List, ◌∷◌}
use Rattle.plant.specs.declared.Plant.{Ghosts}
use Rattle.book.specs.Books.{book_of}
use Rattle.session.specs.History.{Asked, Told, granted, Turn, turn}
use Rattle.session.specs.Law.{Kept}
use Rattle.session.specs.declared.session.Session.{Session}

-- the session has lived the history: its book and its walk are what the history leaves, over what its plant stands for. That the book
-- says what the plant does holds of every session, by its type
abbrev pub Lived : {P : Type 0} {D : Ghosts P} → Session P D → List Turn → Type 0
Lived {P} {D} s h = Kept (D.model s.plant) (book_of s.book) s.walk h

-- a call and its answer: the plant stays, a refusal changes nothing, and whatever history the session had lived before, it has
-- then lived that and this turn
pub record Takes {P : Type 0} {D : Ghosts P} (before : Session P D) (c : Asked) (t : Told) (after : Session P D) : Type 0 where
  pub plant : after.plant ≡ before.plant
  pub refused : IsFalse (granted t) → after ≡ before
  pub law : (h : List Turn) → Lived before h → Lived after (turn c t ∷ h)
