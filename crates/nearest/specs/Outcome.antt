-- What a caller of `nearest` sees: the given counts, the outcome as the definition's Option, and what is asked. The numbers of the two
-- cases, 0 and 14, are said once, by `found_of` of generate_laws; the refusal of the code is `NoSplit` alone.
use Rattle.std.specs.Prelude.{ℕ, ◌*◌, ◌≤◌, List, [], ◌∷◌, Result, Ok, Err}
use Rattle.std.proofs.Math.Option.{Option, none, some}
use Rattle.units.specs.Limits.{most32, most_weight}
use Rattle.score_state.specs.Points.{weights_of}
use Rattle.score_state.specs.Given.{or}
use Rattle.score_state.specs.Accuracy.{cap}
use Rattle.refusals.specs.declared.Refusal.{Refusal}
use Rattle.units.specs.declared.Hits.{Hits}
use Rattle.score_state.specs.declared.HitResults.{HitResults}
use Rattle.score_state.specs.declared.Weights.{Weights}
use Rattle.inspect.specs.Presence.{has, given, five_given}
use Rattle.nearest_laws.specs.Nearest.{Weighting, Found}
use Rattle.nearest.specs.declared.Five.{Five}
use Rattle.nearest.specs.declared.Split.{Split}

-- five counts, and the given ones among them
abbrev pub five_of : Five → List ℕ
five_of x = x.n320.0 ∷ x.n300.0 ∷ x.n200.0 ∷ x.n100.0 ∷ x.n50.0 ∷ []

-- five counts as those of a play without misses
abbrev pub six_of : Five → HitResults
six_of x = record { n320 = x.n320.0; n300 = x.n300.0; n200 = x.n200.0; n100 = x.n100.0; n50 = x.n50.0; misses = 0 }

abbrev pub given_five : ℕ → Five → List (Option ℕ)
given_five k x = five_given k x.n320.0 x.n300.0 x.n200.0 x.n100.0 x.n50.0

-- each case of the outcome as the definition's
abbrev pub found_of : Split → Found
found_of s = record { counts = five_of s.counts; tried = s.tried }

abbrev pub outcome_of : Result Split Refusal → Option Found
outcome_of (Ok s) = some (found_of s)
outcome_of (Err r) = none

-- What `nearest` asks: a weighting, so few hits that all points fit u32, and given counts within the cap of check 10.
pub record Ask (w : Weights) (p : ℕ) (g : Five) (remain : Hits) : Type 0 where
  pub weighting : Weighting (weights_of w)
  pub fits : most_weight * remain.0 ≤ most32
  pub n320 : or (given (has p 1) g.n320.0) 0 ≤ cap
  pub n300 : or (given (has p 2) g.n300.0) 0 ≤ cap
  pub n200 : or (given (has p 4) g.n200.0) 0 ≤ cap
  pub n100 : or (given (has p 8) g.n100.0) 0 ≤ cap
  pub n50 : or (given (has p 16) g.n50.0) 0 ≤ cap
