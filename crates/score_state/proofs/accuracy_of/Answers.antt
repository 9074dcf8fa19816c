-- `score_state::accuracy_of` meets its contract. Assumes nothing.
use mathlib.Core.Path.{sym, ◌∙◌}
use lib.Ieee.{of_bits}
use native.Mathlib.Omega.{arith}
use Rattle.score_state.specs.Points.{weights_of}
use Rattle.score_state.proofs.Caps.{accuracy-none, accuracy-some, whole_within}
use Rattle.score_state.proofs.accuracy_of.Goals as goal

pub total_hits-total-requires : goal.total_hits-total-requires
total_hits-total-requires c = c.requires

pub returns-then-eq : goal.returns-then-eq
unfolding of_bits
returns-then-eq c =
    let x = c.args in
    accuracy-none x.counts x.classic c.total_hits-total.result.0 c.total_hits-total.ensures (sym c.eq.ensures ∙ c.if-eq.true)

pub points_of-numerator-requires : goal.points_of-numerator-requires
points_of-numerator-requires c = record { fact_1 = c.standard_weights-weights.ensures.1; fact_2 = c.requires }

pub mul-denominator-requires : goal.mul-denominator-requires
mul-denominator-requires c =
    omega (arith, whole_within c.args.counts c.requires c.perfect_weight.result c.total_hits-total.result.0 c.perfect_weight.ensures.1 c.total_hits-total.ensures)

pub returns : goal.returns
returns c =
    let x = c.args in
    accuracy-some x.counts x.classic c.total_hits-total.result.0 c.total_hits-total.ensures c.points_of-numerator.result.0 c.perfect_weight.result c.mul-denominator.result.0 (weights_of c.standard_weights-weights.result) c.ratio.result (sym c.eq.ensures ∙ c.if-eq.false) c.standard_weights-weights.ensures.0 c.points_of-numerator.ensures c.perfect_weight.ensures.0 c.mul-denominator.ensures c.ratio.ensures
