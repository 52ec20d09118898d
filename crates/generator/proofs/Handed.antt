-- The error that a `?` hands on. Assumes nothing.
use Rattle.std.proofs.Common.{◌≡◌, IsErrAnd, Err, Result}
use Rattle.std.proofs.lemmas.Result.{err_from_is_err_and}

pub handed_on : {X E : Type 0} (r : Result X E) (f : E) → IsErrAnd r (λ e. e ≡ f) → r ≡ Err f
handed_on r f by = let p = err_from_is_err_and r by in cc
