use Rattle.std.proofs.Common.{rules, ◌≡◌, arith}
use borrow.Author.Tests.{tests}
use Rattle.std.proofs.lemmas.Iterator.{IsFirst-from_position, YieldsList-from_slice}
use Rattle.std.proofs.lemmas.Option.{MatchOption-at_some, MatchOption-at_none}
use Rattle.script.proofs.Cuts.{cut_found, cut_none}
use Rattle.script.proofs.spacing.cut.Goals as goal

pub returns-in-Some : goal.returns-in-Some
returns-in-Some c =
    let bytes = c.args.bytes.now in
    let found =
    MatchOption-at_some _ _ _ c.in-Some.is
    (IsFirst-from_position _ _ c.position.result (λ b. b ≡ c.args.by) (λ b. b ≡ c.args.by → ⊥) c.position.ensures.ran (YieldsList-from_slice bytes cc) (λ x q k. search (rules, tests)) (λ x q k. search (rules, tests))) in
    cut_found c.args.by bytes c.in-Some.at found.0 (λ k lt e. found.2 k 0 (omega arith) lt e) (found.1 0)

pub returns-in-None : goal.returns-in-None
returns-in-None c =
    let bytes = c.args.bytes.now in
    let none =
    MatchOption-at_none _ _ c.in-None.is
    (IsFirst-from_position _ _ c.position.result (λ b. b ≡ c.args.by) (λ b. b ≡ c.args.by → ⊥) c.position.ensures.ran (YieldsList-from_slice bytes cc) (λ x q k. search (rules, tests)) (λ x q k. search (rules, tests))) in
    cut_none c.args.by bytes (λ k lt e. none k 0 (omega arith) lt e)
