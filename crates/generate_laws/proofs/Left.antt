-- Document 02, L1: how large the rounded target and the points of a split are, so that left and its bits fit 32 bits. Assumes nothing.
use Prim.Native.Nat.{ℕ, ◌*◌, ◌≤◌}
use mathlib.Core.List.{List, [], ◌∷◌}
use mathlib.Core.Option.{some}
use native.Mathlib.Nat.{le_trans, mul-le-mul, mul-le-mul_right, mul-add}
use native.Mathlib.Omega.{arith}
use lib.Ieee.{Float}
use lib.IntN.{nat_abs}
use lib.ListN.{get_or}
use Rattle.units.specs.Limits.{most_hits, most_weight, most_points}
use Rattle.points_left.specs.Left.{most31}
use Rattle.points_left.proofs.Left.{size_within}
use Rattle.score_state.specs.Points.{hits, points}
use Rattle.inspect.specs.Inspect.{Inspect, total_hits}
use Rattle.inspect.specs.Checks.{InRange}
use Rattle.closest_f64.proofs.Target.{target-le}
use Rattle.nearest_laws.specs.Nearest.{Weighting}
use Rattle.generate_laws.specs.Generate.{target_of, points_left}
use Rattle.generate_laws.proofs.EquallyFar.{Sinks, weighting_sinks}

-- points are at most the hits times a weight that none exceeds
points-le : (m : ℕ) (ws xs : List ℕ) → Sinks m ws → points ws xs ≤ m * hits xs
unfolding points hits
points-le m [] xs s = omega arith
points-le m (w ∷ ws) [] s = omega arith
points-le m (w ∷ ws) (x ∷ xs) s =
    omega (arith, mul-le-mul_right x s.0, mul-le-mul_right (hits xs) s.0, points-le w ws xs s.1, mul-add m x (hits xs))

module _ (ws : List ℕ) (w : Weighting ws) where
  -- the first weight, w of the target
  first_within : get_or ws 0 0 ≤ most_weight
  first_within = rw w.five w.most

  pub points_within : (xs : List ℕ) → hits xs ≤ most_hits → points ws xs ≤ most_points
  points_within xs h = omega (arith, points-le most_weight ws xs (weighting_sinks ws w))

  module _ (i : Inspect) (acc : Float) (t : total_hits i ≤ most_hits) (r : InRange (some acc)) where
    pub target_within : target_of ws i acc ≤ most_points
    target_within =
        let m = mul-le-mul first_within t in
        le_trans (target-le acc (get_or ws 0 0) (total_hits i) (omega (arith, m)) r.0 r.1) (omega (arith, m))

    pub left_within : (xs : List ℕ) → hits xs ≤ most_hits → nat_abs (points_left ws i acc xs) ≤ most31
    left_within xs h =
        size_within (target_of ws i acc) (points ws xs) (omega (arith, target_within)) (omega (arith, points_within xs h))
