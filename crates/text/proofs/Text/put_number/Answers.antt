-- `text::Text::put_number` meets its contract. Assumes nothing.
use Prim.Native.Nat.{◌<◌}
use mathlib.Core.Path.{ap, ◌∙◌}
use lib.ListN.{length}
use native.Mathlib.Omega.{arith}
use borrow.Author.Rules.{rules}
use Rattle.text.proofs.Written.{restated}
use Rattle.text.proofs.Decimal.{decimal_digits}
use Rattle.text.proofs.Text.put_number.Goals as goal

-- the digits that were made are the number's text
pub put_bytes-requires : goal.put_bytes-requires
put_bytes-requires c =
    let x = c.args in
    let d = c.decimal-k in
    let b : x.n < 18446744073709551616 = search rules in
    let e = ap length (d.ensures.digits ∙ decimal_digits x.n d.result (omega arith) d.ensures.len) in
    omega arith

pub returns : goal.returns
returns c =
    let x = c.args in
    let d = c.decimal-k in
    let b : x.n < 18446744073709551616 = search rules in
    restated c.put_bytes.ensures (d.ensures.digits ∙ decimal_digits x.n d.result (omega arith) d.ensures.len)
