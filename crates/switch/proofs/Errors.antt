-- One refusal in place of whatever error there is, as `map_err` gives it.
use Rattle.std.proofs.Common.{◌≡◌, Ok, Err, Result, ap}
use Rattle.std.specs.Result.{MatchResult, IsErrAnd}

abbrev pub refused_with : {T E F : Type 0} → F → Result T E → Result T F
refused_with k (Ok x) = Ok x
refused_with k (Err e) = Err k

pub error-mapped : {T E F : Type 0} (k : F) (r : Result T E) (s : Result T F) (Gives : E → F → Type 0) → ((e : E) (f : F) → Gives e f → f ≡ k)
    → MatchResult r (λ x. s ≡ Ok x) (λ e. IsErrAnd s (Gives e)) → s ≡ refused_with k r
error-mapped k (Ok x) s Gives always cases = cases
error-mapped k (Err e) (Ok x) Gives always cases = absurd cases
error-mapped k (Err e) (Err f) Gives always cases = ap Err (always e f cases)
