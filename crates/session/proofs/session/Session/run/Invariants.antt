use Rattle.std.proofs.Common.{◌≡◌, ◌≤◌, List, length, take, vec_items, vec_len, vec_capacity}
use Rattle.session.specs.History.{Turn}
use Rattle.session.specs.Log.{logged}
use Rattle.session.specs.Sessions.{Lived}
use Rattle.session.proofs.session.Session.run.Given as goal

abbrev pub invariant-loop-call : goal.invariant-loop-call
invariant-loop-call g l = record {
  counted : vec_len l.answers ≡ l.call-index;
  room : length l.calls ≤ vec_capacity l.answers;
  plant : l.self.plant ≡ l.initial.self.plant;
  law : (h : List Turn) → Lived l.initial.self h → Lived l.self (logged (take l.call-index l.calls) (vec_items l.answers) h);
}
