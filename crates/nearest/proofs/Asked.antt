-- What `nearest` asks gives its callees what they ask.
use Prim.Native.Nat.{ℕ, suc, ◌+◌, ◌-◌, ◌*◌, ◌≤◌}
use mathlib.Core.List.{List, [], ◌∷◌}
use mathlib.Core.Option.{Option}
use native.Mathlib.Nat.{mul-le-mul_right, mul-add}
use native.Mathlib.Omega.{arith}
use Rattle.units.specs.Limits.{most32, most_weight}
use Rattle.score_state.specs.Points.{weights_of, Light}
use Rattle.score_state.specs.Given.{or, missing, given_hits, given_points}
use Rattle.score_state.specs.Accuracy.{Capped}
use Rattle.units.specs.declared.Hits.{Hits}
use Rattle.score_state.specs.declared.Weights.{Weights}
use Rattle.inspect.specs.Presence.{has, givens_of, unwrap_or_zero}
use Rattle.nearest_laws.specs.Walk.{Falling}
use Rattle.nearest_laws.proofs.Nearest.{weighting_falls}
use Rattle.nearest_laws.proofs.Weighs.{weighting-light}
use Rattle.plan.specs.Planned.{folded_of}
use Rattle.nearest.specs.Outcome.{six_of, Ask}
use Rattle.nearest.specs.declared.Five.{Five}
use Rattle.nearest.proofs.Known.{unwrap_or, folded_is}

abbrev AtMost : List ℕ → Type 0
AtMost [] = Unit {0}
AtMost (w ∷ ws) = (w ≤ most_weight) × AtMost ws

points-le : (ws : List ℕ) (gs : List (Option ℕ)) → AtMost ws → given_points ws gs ≤ most_weight * given_hits gs
unfolding given_points given_hits
points-le [] gs h = omega arith
points-le (w ∷ ws) [] h = omega arith
points-le (w ∷ ws) (g ∷ gs) h =
    omega (arith, mul-le-mul_right (or g 0) h.0, points-le ws gs h.1, mul-add most_weight (or g 0) (given_hits gs))

module _ {w : Weights} {p : ℕ} {g : Five} {remain : Hits} (a : Ask w p g remain) where
  pub capped : Capped (unwrap_or_zero p (six_of g))
  unfolding unwrap_or_zero
  capped =
      record {
        n320 = rw (unwrap_or (has p 1) g.n320.0) a.n320;
        n300 = rw (unwrap_or (has p 2) g.n300.0) a.n300;
        n200 = rw (unwrap_or (has p 4) g.n200.0) a.n200;
        n100 = rw (unwrap_or (has p 8) g.n100.0) a.n100;
        n50 = rw (unwrap_or (has p 16) g.n50.0) a.n50;
        misses = omega arith;
      }

  pub light : Light w
  light = weighting-light w a.weighting

  -- the missing weights after step 1 fall, and all points fit
  pub falls : Falling (suc most_weight) (missing (weights_of w) (givens_of (folded_of w p) (unwrap_or_zero p (six_of g))))
  falls = rw (folded_is w p (six_of g)) (weighting_falls (weights_of w) (givens_of p (six_of g)) a.weighting)

  pub fits
      : given_hits (givens_of p (six_of g)) ≤ remain.0
      → given_points (weights_of w) (givens_of p (six_of g)) + most_weight * (remain.0 - given_hits (givens_of p (six_of g))) ≤ most32
  fits h =
      let n = points-le (weights_of w) (givens_of p (six_of g)) (light.n320, (light.n300, (light.n200, (light.n100, (light.n50, tt))))) in
      omega (arith, a.fits)
