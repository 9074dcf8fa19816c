-- `score_state::standard_weights` meets its contract. Assumes nothing.
use native.Mathlib.Omega.{arith}
use borrow.Author.Rules.{rules}
use Rattle.score_state.proofs.standard_weights.Goals as goal

pub returns : goal.returns
returns c = (rw c.perfect_weight-w.ensures.0, record { n320 = omega arith; n300 = search rules; n200 = search rules; n100 = search rules; n50 = search rules })
