-- `accuracy_text::put_last` meets its contract. Assumes nothing.
use mathlib.Core.List.{[]}
use native.Mathlib.Omega.{arith}
use Rattle.text.proofs.Written.{restated}
use Rattle.accuracy_text.proofs.Pieces.{digits-length, last_part}
use Rattle.accuracy_text.proofs.put_last.Goals as goal

pub returns : goal.returns
returns c =
    let x = c.args in
    let p = restated c.put_bytes.ensures (last_part 10 x.count x.n c.digits_of-digits.result c.requires.0 c.digits_of-digits.ensures) in
    record { gained = p; value = omega (arith, p.ends, digits-length 10 x.count x.n []) }
