-- `fast::target_total` meets its contract. Assumes nothing.
use mathlib.Core.Path.{◌∙◌}
use Prim.Native.Nat.{ℕ}
use native.Mathlib.Omega.{arith}
use lib.IntN.{pos}
use lib.Ieee.{Float, binary64, sub, of_int, of_bits}
use Rattle.rounding.specs.Round.{product}
use Rattle.rounding.proofs.Floats.{of-int, product_within}
use Rattle.fast.specs.Fast.{target_total}
use Rattle.fast.proofs.Difference.{difference_Below, above_zero_le, not_above_rounds}
use Rattle.fast.proofs.target_total.Goals as goal

abbrev difference : Float → ℕ → ℕ → Float
difference acc d n = sub binary64 (product acc d) (of_int binary64 (pos n))

pub round_ties_even-requires : goal.round_ties_even-requires
unfolding of_bits
round_ties_even-requires c =
    let d = c.args.denominator.0 in
    let n = c.args.numerator.0 in
    let acc = c.args.acc.value in
    let t = rw (c.from.ensures, c.from-2.ensures) at c.if-x.true in
    rw (c.from.ensures, c.from-2.ensures)
    (record { fact_1 = above_zero_le (difference acc d n) t; fact_2 = difference_Below (product acc d) (of_int binary64 (pos n)) d n (omega arith) (product_within acc d (omega arith) c.args.acc.in_range.0 c.args.acc.in_range.1) (of-int n (omega arith)) t })

pub returns-then-x : goal.returns-then-x
unfolding target_total
returns-then-x c = c.round_ties_even.ensures ∙ rw (c.from.ensures, c.from-2.ensures)

pub returns-else-x : goal.returns-else-x
unfolding target_total of_bits
returns-else-x c =
    let x = c.args in
    not_above_rounds (difference x.acc.value x.denominator.0 x.numerator.0) (rw (c.from.ensures, c.from-2.ensures) at c.if-x.false)
