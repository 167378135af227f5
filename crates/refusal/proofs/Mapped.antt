-- What a `Result` was before its error was turned into a refusal. Assumes nothing.
use Rattle.std.proofs.Common.{◌≡◌, Result, Ok, Err, MatchResult, sym, ◌∙◌, refl, subst}
use Rattle.std.specs.Result.{IsErrAnd}

-- an error of `map_err` came from an error
pub err_before : {T E D : Type 0} (P : E → D → Type 0) (s : Result T E) {t : Result T D} {d : D} → MatchResult s (λ x. t ≡ Ok x) (λ e. IsErrAnd t (P e)) → t ≡ Err d → (e : E) × (s ≡ Err e) × P e d
err_before P (Ok x) cases is = cc
err_before P (Err e) {t} {d} cases is = (e, refl, subst (λ u. IsErrAnd u (P e)) is cases)

-- and a value is the value that it was
pub ok_before : {T E D : Type 0} (P : E → D → Type 0) (s : Result T E) {t : Result T D} {y : T} → MatchResult s (λ x. t ≡ Ok x) (λ e. IsErrAnd t (P e)) → t ≡ Ok y → s ≡ Ok y
ok_before P (Ok x) cases is = cc
ok_before P (Err e) {t} {y} cases is = absurd (subst (λ u. IsErrAnd u (P e)) is cases)
