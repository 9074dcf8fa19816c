-- `rounding::round_whole` meets its contract: the bits of the sum are those of 2 ^ 52 and, above them, the rounded number. Assumes
-- nothing.
use native.Mathlib.Omega.{arith}
use lib.Ieee.{binary64, add, of_bits}
use Rattle.rounding.specs.Round.{round_even}
use Rattle.rounding.proofs.WholeSum.{Bits, whole_sum}
use Rattle.rounding.proofs.round_whole.Goals as goal
use Rattle.rounding.proofs.round_whole.Goals.{Start}

-- `rounding::round_whole` meets its contract: the bits of the sum are those of 2 ^ 52 and, above them, the rounded number. Assumes
-- nothing.
bits : (c : Start) → Bits (add binary64 c.args.x (of_bits binary64 0x4330_0000_0000_0000)) (round_even c.args.x)
bits c = whole_sum c.args.x c.requires.fact_1 c.requires.fact_2

pub float_to_bits-result : goal.float_to_bits-result
float_to_bits-result c = (bits c).0

pub overflow_sub-result : goal.overflow_sub-result
overflow_sub-result c = omega (arith, (bits c).1)

pub returns : goal.returns
returns c = omega (arith, (bits c).1)
