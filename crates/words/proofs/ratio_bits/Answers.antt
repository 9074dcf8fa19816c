-- `words::ratio_bits` meets its contract. Assumes nothing.
use mathlib.Core.Path.{ap}
use mathlib.Core.Bool.{false}
use native.Mathlib.Omega.{arith}
use lib.Ieee.{to_bits, binary64}
use Rattle.rounding.proofs.Distance.{ratio-is}
use Rattle.words.proofs.Ratio.{in-float, round_no_nan}
use Rattle.words.proofs.ratio_bits.Goals as goal

pub int_to_float-result : goal.int_to_float-result
int_to_float-result c = in-float c.args.p (omega arith)

pub int_to_float-result-2 : goal.int_to_float-result-2
int_to_float-result-2 c = in-float c.args.q (omega arith)

pub float_to_bits-result : goal.float_to_bits-result
float_to_bits-result c =
    let x = c.args in
    rw (ratio-is x.p x.q (omega arith) (omega arith) (omega arith)) (round_no_nan binary64 false x.p x.q)

pub returns : goal.returns
returns c =
    let x = c.args in
    ap (to_bits binary64) (ratio-is x.p x.q (omega arith) (omega arith) (omega arith))
