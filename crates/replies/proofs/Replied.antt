-- Each kind of line has its one reply. Assumes nothing.
use Rattle.std.proofs.Common.{◌≡◌, ℕ, List, [], ◌∷◌, ◌++◌, codes, refl, subst}
use Rattle.script.specs.declared.calls.Word.{Word}
use Rattle.script.specs.Says.{Meaning, Says, Skipped, Plain}
use Rattle.replies.specs.Replies.{State, Answers, Replies}

module _ {words : List Word} {line reply : List ℕ} {before : State} (plain : Plain words line) where
  pub reply_call : (m : Meaning) (answer : List ℕ) (after : State) → Says words line m → reply ≡ answer ++ 10 ∷ [] → Answers m before answer after → Replies words line before reply after
  reply_call m answer after says is answers = record {
    call = λ n other. (answer, is, subst (λ k. Answers k before answer after) (plain.once m n says other) answers);
    skip = λ skipped. absurd (plain.apart m says skipped);
    what = λ _ none. absurd (none m says);
  }

  pub reply_skip : Skipped line → reply ≡ [] → Replies words line before reply before
  reply_skip skipped is = record {
    call = λ m says. absurd (plain.apart m says skipped);
    skip = λ _. (is, refl);
    what = λ not _. absurd (not skipped);
  }

pub reply_what : {words : List Word} {line reply : List ℕ} {before : State} → (Skipped line → ⊥) × ((m : Meaning) → Says words line m → ⊥) → reply ≡ (codes "what? " ++ line) ++ 10 ∷ [] → Replies words line before reply before
reply_what none is = record {
  call = λ m says. absurd (none.1 m says);
  skip = λ skipped. absurd (none.0 skipped);
  what = λ _ _. (is, refl);
}
