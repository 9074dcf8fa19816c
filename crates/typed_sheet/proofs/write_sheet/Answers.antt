-- `typed_sheet::write_sheet` meets its contract. Assumes nothing.
use native.Mathlib.Omega.{arith}
use Rattle.text.proofs.Written.{followed}
use Rattle.typed_sheet.specs.Typed.{sheet_bytes}
use Rattle.typed_sheet.proofs.Whole.{length_sections}
use Rattle.typed_sheet.proofs.write_sheet.Goals as goal

pub put_number-requires : goal.put_number-requires
put_number-requires c =
    let x = c.args in
    omega (arith, length_sections x.text.now x.t.charts x.t.weights x.t.plays)

pub write_kind-requires : goal.write_kind-requires
write_kind-requires c =
    let x = c.args in
    omega (arith, length_sections x.text.now x.t.charts x.t.weights x.t.plays)

pub put_number-requires-2 : goal.put_number-requires-2
put_number-requires-2 c =
    let x = c.args in
    omega (arith, length_sections x.text.now x.t.charts x.t.weights x.t.plays)

pub write_kind-requires-2 : goal.write_kind-requires-2
write_kind-requires-2 c =
    let x = c.args in
    omega (arith, length_sections x.text.now x.t.charts x.t.weights x.t.plays)

pub put_number-requires-3 : goal.put_number-requires-3
put_number-requires-3 c =
    let x = c.args in
    omega (arith, length_sections x.text.now x.t.charts x.t.weights x.t.plays)

pub write_kind-requires-3 : goal.write_kind-requires-3
write_kind-requires-3 c =
    let x = c.args in
    omega (arith, length_sections x.text.now x.t.charts x.t.weights x.t.plays)

pub returns : goal.returns
unfolding sheet_bytes
returns c =
    followed (followed (followed (followed (followed c.put_number.ensures.gained c.write_kind.ensures) c.put_number-2.ensures.gained) c.write_kind-2.ensures) c.put_number-3.ensures.gained) c.write_kind-3.ensures
