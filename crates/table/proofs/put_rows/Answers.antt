-- `table::put_rows` meets its contract. Assumes nothing.
use mathlib.Core.Path.{◌≡◌}
use native.Mathlib.Omega.{arith}
use Rattle.text.proofs.Written.{nothing, next_piece}
use Rattle.row_text.specs.RowText.{row_text}
use Rattle.table.proofs.put_rows.Goals as goal

pub loop-i-init : goal.loop-i-init
loop-i-init c = (omega arith, nothing c.args.text.now (omega arith))

pub loop-i-preserved : goal.loop-i-preserved
loop-i-preserved c =
    let l = c.loop-i in
    (omega arith, next_piece (row_text c.args.out.now) l.i l.invariant.1 c.put_row.ensures.gained)

pub returns : goal.returns
returns c =
    let l = c.loop-i in
    let e : l.i ≡ c.args.n = omega arith in
    record { gained = rw e at l.invariant.1; upper_bound = omega arith }
