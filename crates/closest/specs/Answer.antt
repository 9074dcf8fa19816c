-- The answer of Closest. Document 01, Language forms: "For every answer that is an enum, a definition gives this paper's number and
-- values for each case of the enum."
use Rattle.std.specs.Prelude.{ℕ, List, Result, Ok, Err}
use Rattle.refusals.specs.declared.Refusal.{Refusal}
use Rattle.refusals.specs.Refusal.{number_of}
use Rattle.score_state.specs.declared.HitResults.{HitResults}
use Rattle.score_state.specs.Answer.{Answer, worked, refused}
use Rattle.closest_laws.specs.Closest.{six}

-- the six counts, or the refusal's number
abbrev pub answer_of : Result HitResults Refusal → Answer (List ℕ)
answer_of (Ok r) = worked (six r)
answer_of (Err r) = refused (number_of r)
