-- `score_state::total_hits` meets its contract. Assumes nothing.
use native.Mathlib.Omega.{arith}
use Rattle.score_state.specs.Points.{hits}
use Rattle.score_state.proofs.total_hits.Goals as goal

pub returns : goal.returns
unfolding hits
returns c = omega arith
