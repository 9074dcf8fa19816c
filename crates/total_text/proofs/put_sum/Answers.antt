-- `total_text::put_sum` meets its contract. Assumes nothing.
use Prim.Native.Nat.{◌<◌}
use native.Mathlib.Omega.{arith}
use borrow.Author.Rules.{rules}
use Rattle.text.proofs.Written.{followed}
use Rattle.text.proofs.Decimal.{text_within}
use Rattle.total_text.proofs.put_sum.Goals as goal

pub put_number-requires : goal.put_number-requires
put_number-requires c =
    let b : c.args.n < 18446744073709551616 = search rules in
    omega (arith, text_within 19 c.args.n (omega arith))

pub returns : goal.returns
returns c =
    let b : c.args.n < 18446744073709551616 = search rules in
    record { gained = followed c.put_byte.ensures c.put_number.ensures; upper_bound = omega (arith, text_within 19 c.args.n (omega arith)) }
