-- How a granted or refused opening carries a history on, and when two sessions are the same. Relies on Counting.
use Rattle.std.proofs.Common.{◌≡◌, ℕ, ◌<◌, true, false, eqb, List, ◌∷◌, length, get_or, is_some, None, Option, sym, refl, ap, ◌∙◌, inl, inr, subst, ⊎_elim, arith}
use Rattle.std.proofs.lemmas.Bool.{cases_Bool}
use Rattle.std.proofs.Props.{props}
use mathlib.Core.HLevel.{is_prop→PathP}
use Rattle.refusal.specs.declared.Refusal.{Refusal}
use Rattle.refusal.specs.Rows.{First}
use Rattle.plant.specs.declared.Plant.{Ghosts}
use Rattle.plant.specs.Model.{Model}
use Rattle.book.specs.Records.{Saying, look, open_states, Adds, Apart}
use Rattle.book.specs.Books.{book_of, WhyNot, Refuses}
use Rattle.book.specs.declared.book.Book.{Book}
use Rattle.book.specs.declared.record.Record.{Record}
use Rattle.book.specs.declared.edits.NotAdded.{NotAdded}
use Rattle.book.specs.declared.edits.NotAdded.TheVariants.{Present, Full as FullBook}
use Rattle.book.proofs.Opened.{known_listed, listed_known, listed_once}
use Rattle.session.specs.History.{Asked, Turn, turn, open_state, done, refused, is_open, Lists}
use Rattle.session.specs.Law.{refusals, Full, Exact, Kept}
use Rattle.session.specs.Sessions.{Lived, Takes}
use Rattle.session.specs.declared.session.Session.{Session}
use Rattle.session.proofs.Counting.{same_length}

-- sessions with the same fields are the same
pub same : {P : Type 0} {D : Ghosts P} (s t : Session P D) → s.plant ≡ t.plant → s.book ≡ t.book → s.walk ≡ t.walk → s ≡ t
same {P} {D} s t plant book walk = λ i. record {
  plant = plant i;
  book = book i;
  walk = walk i;
  exact = is_prop→PathP (λ j. Exact (D.model (plant j)).system (book_of (book j))) (λ j. Prim.hlevel props) s.exact t.exact i;
}

-- a call that is refused, and has left the book and the walk as they were
pub stays : {P : Type 0} {D : Ghosts P} (before after : Session P D) (c : Asked) (r : Refusal) → after ≡ before → ((h : List Turn) → Lived before h → First (refusals (D.model before.plant) h c) r) → Takes before c (refused r) after
stays before after c r is first = record {
  plant = λ i. (is i).plant;
  refused = λ _. is;
  law = λ h lived. subst (λ s. Lived s (turn c (refused r) ∷ h)) (sym is) (record { right = (first h lived, lived.right); opened = lived.opened; walking = lived.walking });
}

-- the open states of the book are those of the history
book_lists : {h : List Turn} (rs : List (Option Record)) → Apart rs → ((s : ℕ) → is_some (look rs s) ≡ is_open h s) → Lists h (open_states rs)
book_lists rs apart same = record {
  apart = listed_once rs apart;
  only = λ i lt. sym (same (get_or (open_states rs) i 0)) ∙ listed_known rs i lt;
  all = λ s is. known_listed rs s (same s ∙ is);
}

not_full : {h : List Turn} (rs : List (Option Record)) → Apart rs → ((s : ℕ) → is_some (look rs s) ≡ is_open h s) → length (open_states rs) < 256 → Full h → ⊥
not_full rs apart same less full = omega (arith, less, full.2, same_length (open_states rs) full.0 (book_lists rs apart same) full.1)

module _ {M : Model} {h : List Turn} {walk : Option ℕ} (b : Book) (s : ℕ) (kept : Kept M (book_of b) walk h) where
  pub opened : {after : ℕ → Option Saying} (e : Saying) → book_of b s ≡ None → length (open_states b.records) < 256 → Adds (book_of b) s e after → Kept M after walk (turn (open_state s) done ∷ h)
  opened e none room adds = record {
    right = (
      (
        (λ i p. let q = sym p.0 ∙ sym (kept.opened s) ∙ ap is_some none in cc, (λ i p. not_full b.records b.apart kept.opened room p.0, tt)),
        refl,
      ),
      kept.right,
    );
    opened = λ t.
        ⊎_elim
        (λ (e : eqb s t ≡ true). ap is_some (adds t) ∙ rw e)
        (λ (e : eqb s t ≡ false). ap is_some (adds t) ∙ rw e (kept.opened t))
        (cases_Bool (eqb s t));
    walking = kept.walking;
  }

  pub not_opened : (why : NotAdded) (r : Refusal) → WhyNot b s why → Refuses why r → First (refusals M h (open_state s)) r
  not_opened Present r there gives = inl (0, (sym (kept.opened s) ∙ there, refl), gives)
  not_opened FullBook r full gives = inr (
    λ i p. let q = sym p.0 ∙ sym (kept.opened s) ∙ ap is_some full.0 in cc,
    inl (0, ((open_states b.records, book_lists b.records b.apart kept.opened, full.1), refl), gives),
  )
