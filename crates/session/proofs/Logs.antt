-- One call more in a log. Assumes nothing.
use Rattle.std.proofs.Common.{◌≡◌, List, [], ◌∷◌, ◌++◌, length, Result, refl, arith}
use Rattle.session.specs.History.{Turn, turn}
use Rattle.session.specs.Log.{asks, tells, logged}
use Rattle.session.specs.declared.turns.Call.{Call}
use Rattle.session.specs.declared.turns.Reply.{Reply}
use Rattle.refusal.specs.declared.Refusal.{Refusal}

pub logged_more : (calls : List Call) (answers : List (Result Reply Refusal)) (c : Call) (a : Result Reply Refusal) (h : List Turn) → length answers ≡ length calls → logged (calls ++ c ∷ []) (answers ++ a ∷ []) h ≡ turn (asks c) (tells a) ∷ logged calls answers h
logged_more [] [] c a h long = refl
logged_more [] (b ∷ answers) c a h long = absurd (omega arith)
logged_more (d ∷ calls) [] c a h long = absurd (omega arith)
logged_more (d ∷ calls) (b ∷ answers) c a h long = logged_more calls answers c a (turn (asks d) (tells b) ∷ h) (omega arith)
