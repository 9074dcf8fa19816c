-- `score_state::points_of` meets its contract. Assumes nothing.
use native.Mathlib.Omega.{arith}
use Rattle.score_state.specs.Points.{points}
use Rattle.score_state.proofs.points_of.Goals as goal

pub returns : goal.returns
unfolding points
returns c = omega arith
