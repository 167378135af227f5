-- What the calls' results tell. Relies on History.
use Rattle.std.specs.Prelude.{ℕ, Ok, Err, Result}
use Rattle.refusal.specs.declared.Refusal.{Refusal}
use Rattle.session.specs.History.{Told, done, reached, refused}

-- of a call, where what is granted tells this
abbrev pub told : {A : Type 0} → (A → Told) → Result A Refusal → Told
told grants (Ok x) = grants x
told grants (Err r) = refused r

-- of a call that answers only its grant
abbrev pub told_done : Result (Unit {0}) Refusal → Told
told_done result = told (λ _. done) result

-- of a call that answers the state reached
abbrev pub told_state : Result ℕ Refusal → Told
told_state result = told reached result
