-- Document 01, Language forms: "For every answer that is an enum, a definition gives this paper's number and values for each case of
-- the enum." A refused direct call has no counts; the values of another are n320, n300, n200, n100, n50, misses, tried and,
-- by its bits, left (document 02, L1).
use Rattle.std.specs.Prelude.{ℕ, List, [], ◌∷◌, pos, Result, Ok, Err}
use Rattle.refusals.specs.declared.Refusal.{Refusal}
use Rattle.refusals.specs.Refusal.{number_of}
use Rattle.score_state.specs.Answer.{Answer, refused, worked}
use Rattle.score_state.specs.declared.HitResults.{HitResults}
use Rattle.points_left.specs.Left.{bits_of}
use Rattle.generated.specs.declared.Generated.{Generated}

-- the eight values
abbrev pub values : Generated → List ℕ
values g = g.counts.n320 ∷ g.counts.n300 ∷ g.counts.n200 ∷ g.counts.n100 ∷ g.counts.n50 ∷ g.counts.misses ∷ g.tried ∷ bits_of g.left ∷ []

abbrev pub generated_of : Result Generated Refusal → Answer (List ℕ)
generated_of (Ok g) = worked (values g)
generated_of (Err r) = refused (number_of r)

-- counts of which no candidate was tried
abbrev pub untried : HitResults → Generated
untried c = record { counts = c; tried = 0; left = pos 0 }
