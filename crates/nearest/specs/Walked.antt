-- Document 01, Nearest, step 4: the walk's counts at their places among the five. The given ones are told by a presence number, whose bits
-- N320 to N50 say which counts are given; a missing count's number plays no part.
use Rattle.std.specs.Prelude.{ℕ, List, [], ◌∷◌}
use Rattle.std.proofs.Math.Option.{Option}
use Rattle.score_state.specs.Points.{weights_of}
use Rattle.score_state.specs.Given.{missing, fill}
use Rattle.score_state.specs.declared.HitResults.{HitResults}
use Rattle.score_state.specs.declared.Weights.{Weights}
use Rattle.inspect.specs.Presence.{givens_of}
use Rattle.nearest_laws.specs.Walk.{walk}
use Rattle.nearest_laws.specs.Nearest.{Found}
use Rattle.nearest_laws.specs.Places.{places}
use Rattle.walk.specs.declared.Plan.{Plan}
use Rattle.walk.specs.declared.Spread.{Spread}

-- the counts of a candidate at their places among the five
abbrev pub places_of : Weights → ℕ → HitResults → Plan → Spread → List ℕ
places_of w p k plan x =
    places plan.a plan.c x.top.0 x.rest.0 (weights_of w) (givens_of p k)
    (0 ∷ x.n300.0 ∷ x.n200.0 ∷ x.n100.0 ∷ 0 ∷ [])

-- the walk's split: R hits to give, g points of the given counts
unfoldable pub walked_of : List ℕ → List (Option ℕ) → ℕ → ℕ → ℕ → Found
walked_of ws gs T R g =
    let best = walk (missing ws gs) T R g in
    record { counts = fill gs best.counts; tried = best.tried }
