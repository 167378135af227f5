-- What became of a plant, from how it was made. Assumes nothing.
use Rattle.std.proofs.Common.{◌≡◌, ℕ, List, codes, Result, Ok, Err, MatchResult, ap, subst}
use Rattle.std.specs.Result.{IsOkAnd}
use Rattle.refusal.specs.Rows.{Row, First}
use Rattle.plant.specs.Making.{Failed}
use Rattle.plant.specs.Model.{Model}
use Rattle.plant.specs.declared.Failure.{Failure}
use Rattle.plant.specs.declared.Failure.TheVariants.{Refused, OutOfMemory}
use Rattle.kinds.specs.Kinds.{any_model}
use Rattle.kinds.specs.declared.AnyPlant.{AnyPlant}
use Rattle.replies.specs.Replies.{State, Makes, makes, refuses, Made, with_plant}

-- a plant of one kind, made or not, and then taken as one of any kind
pub kept_or_not : {P : Type 0} (Granted : Model → Type 0) (rows : List Row) (any : P → AnyPlant) (made : Result P Failure) (taken : Result AnyPlant Failure) {before after : State} {answer : List ℕ} → MatchResult made (λ p. Granted (any_model (any p))) (λ e. Failed rows e) → MatchResult made (λ p. taken ≡ Ok (any p)) (λ e. taken ≡ Err e) → Made taken before answer after → Makes Granted (First rows) (λ _. codes "ok") with_plant before answer after
kept_or_not Granted rows any (Ok p) taken {before} {after} {answer} granted same told =
    let kept = subst (λ t. Made t before answer after) same told in makes (any_model (any p)) granted kept.0 kept.1
kept_or_not Granted rows any (Err (Refused r)) taken {before} {after} {answer} first same told =
    let line = subst (λ t. Made t before answer after) same told in refuses r first line.0 line.1
kept_or_not Granted rows any (Err OutOfMemory) taken {before} {after} {answer} clear same told =
    absurd (subst (λ t. Made t before answer after) same told).0

-- what `map` makes of it, by what its function makes
pub mapped : {P Q : Type 0} (R : P → Q → Type 0) (any : P → Q) (made : Result P Failure) (taken : Result Q Failure) → MatchResult made (λ p. IsOkAnd taken (R p)) (λ e. taken ≡ Err e) → ((p : P) (q : Q) → R p q → q ≡ any p) → MatchResult made (λ p. taken ≡ Ok (any p)) (λ e. taken ≡ Err e)
mapped R any (Ok p) (Ok q) same is = ap (λ x. Ok x) (is p q same)
mapped R any (Ok p) (Err e) same is = absurd same
mapped R any (Err e) taken same is = same
