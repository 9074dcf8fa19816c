-- `rounding::round_ties_even` meets its contract. Assumes nothing.
use native.Mathlib.Omega.{arith}
use Rattle.rounding.proofs.WholeSum.{rounded_le, below_51}
use Rattle.rounding.proofs.round_ties_even.Goals as goal

-- `rounding::round_ties_even` meets its contract. Assumes nothing.
pub round_whole-requires : goal.round_whole-requires
round_whole-requires c = record { fact_1 = c.requires.fact_1; fact_2 = below_51 c.args.x c.requires.fact_2 }

pub overflow_cast-result : goal.overflow_cast-result
overflow_cast-result c = omega (arith, c.round_whole.ensures, rounded_le 31 c.args.x c.requires.fact_2)

pub returns : goal.returns
returns c = c.round_whole.ensures
