-- Document 01, Where a row or sheet stops: "A direct call .. refuses .. with no counts." Assumes nothing.
use mathlib.Core.Path.{◌≡◌, refl}
use mathlib.Core.List.{[]}
use Rattle.std.specs.Prelude.{Err}
use Rattle.refusals.specs.declared.Refusal.{Refusal}
use Rattle.refusals.specs.Refusal.{number_of}
use Rattle.score_state.specs.Answer.{status_of, values_of}
use Rattle.generated.specs.Generated.{generated_of}

pub no_counts : (r : Refusal) → (status_of (generated_of (Err r)) ≡ number_of r) × (values_of (generated_of (Err r)) ≡ [])
no_counts r = (refl, refl)
