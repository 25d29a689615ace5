-- The answer where `?` gives back a refusal. Assumes nothing.
use Rattle.std.specs.Prelude.{◌≡◌, ℕ, Result, Ok, Err, IsErrAnd}
use Rattle.std.proofs.Common.{ap}
use Rattle.dvi_calls.specs.declared.Refusal.{Refusal}
use Rattle.results.specs.Results.{refusal}
use Rattle.dvi_calls.specs.Values.{number_as, answered_as}

pub refused_with : (e : Refusal) (r : Result ℕ Refusal) → IsErrAnd r (λ x. x ≡ e) → answered_as r ≡ refusal (number_as e) 0
refused_with e (Ok n) is = absurd is
refused_with e (Err x) is = ap (λ y. refusal (number_as y) 0) is
