-- What is written while a script is answered. Assumes nothing.
use Rattle.std.proofs.Common.{◌≡◌, ℕ, List, [], ◌++◌, None, Some, Option, sym, ap, ◌∙◌, subst, append_assoc, append-nil}
use Rattle.std.specs.Io.KnownBytes.{Appends}
use Rattle.script.specs.declared.calls.Word.{Word}
use Rattle.script.specs.Words.{Cut}
use Rattle.replies.specs.Replies.{State, Replies, Answered, at_end, at_line}

pub appends_none : (o : Option (List ℕ)) → Appends o o []
appends_none None = tt
appends_none (Some xs) = sym (append-nil xs)

pub appends_more : (o m n : Option (List ℕ)) (a b : List ℕ) → Appends o m a → Appends m n b → Appends o n (a ++ b)
appends_more None m n a b p q = tt
appends_more (Some xs) None n a b p q = absurd p
appends_more (Some xs) (Some ys) None a b p q = absurd q
appends_more (Some xs) (Some ys) (Some zs) a b p q = q ∙ ap (λ l. l ++ b) p ∙ append_assoc xs a b

-- so far the bytes have been written, and whatever answers the rest answers the script behind them
pub record Sofar (words : List Word) (script rest : List ℕ) (start now : State) (held holds : Option (List ℕ)) : Type 0 where
  pub bytes : List ℕ
  pub answers : (more : List ℕ) → Answered words rest now more → Answered words script start (bytes ++ more)
  pub written : Appends held holds bytes

module _ {words : List Word} {script : List ℕ} {start : State} {held : Option (List ℕ)} where
  pub nothing_yet : Sofar words script script start start held held
  nothing_yet = record { bytes = []; answers = λ more a. a; written = appends_none held }

  pub line_more : {line rest after reply : List ℕ} {now later : State} {holds held' : Option (List ℕ)} → Sofar words script rest start now held holds → Cut 10 rest line after → Replies words line now reply later → Appends holds held' reply → Sofar words script after start later held held'
  line_more {line} {rest} {after} {reply} {now} {later} {holds} {held'} s cut replies written = record {
    bytes = s.bytes ++ reply;
    answers = λ more a. subst (Answered words script start) (sym (append_assoc s.bytes reply more)) (s.answers (reply ++ more) (at_line rest line after now later reply more cut replies a));
    written = appends_more held holds held' s.bytes reply s.written written;
  }

  pub all_answered : {now : State} {holds : Option (List ℕ)} (rest : List ℕ) → rest ≡ [] → Sofar words script rest start now held holds → (bytes : List ℕ) × Answered words script start bytes × Appends held holds bytes
  all_answered {now} {holds} rest none s =
      let last = s.answers [] (subst (λ l. Answered words l now []) (sym none) (at_end now)) in
      (s.bytes, subst (Answered words script start) (append-nil s.bytes) last, s.written)
