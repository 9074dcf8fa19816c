-- `text::Text::put_decimal` meets its contract. Assumes nothing.
use Prim.Native.Nat.{◌<◌}
use native.Mathlib.Omega.{arith}
use borrow.Author.Rules.{rules}
use Rattle.text.proofs.Decimal.{text_within}
use Rattle.text.proofs.Text.put_decimal.Goals as goal

pub put_number-requires : goal.put_number-requires
put_number-requires c =
    let x = c.args in
    let b : x.n < 4294967296 = search rules in
    omega (arith, text_within 9 x.n (omega arith))

pub returns-clause-upper_bound : goal.returns-clause-upper_bound
returns-clause-upper_bound c =
    let x = c.args in
    let b : x.n < 4294967296 = search rules in
    omega (arith, c.put_number.ensures.ends, text_within 9 x.n (omega arith))

pub returns-clause-upper_bound_2 : goal.returns-clause-upper_bound_2
returns-clause-upper_bound_2 c = λ h. omega (arith, c.put_number.ensures.ends, text_within 3 c.args.n (omega arith))
