-- `row_text::put_fields` meets its contract. Assumes nothing.
use mathlib.Core.Path.{◌≡◌}
use native.Mathlib.Omega.{arith}
use Rattle.text.proofs.Written.{nothing, next_piece}
use Rattle.row_text.specs.RowText.{field_text, fields_text}
use Rattle.row_text.proofs.put_fields.Goals as goal

pub loop-k-init : goal.loop-k-init
loop-k-init c = (omega arith, nothing c.args.text.now (omega arith))

pub loop-k-preserved : goal.loop-k-preserved
loop-k-preserved c =
    let l = c.loop-k in
    (omega arith, next_piece (field_text c.args.out.now c.args.from) l.k l.invariant.1 c.put_field.ensures.gained)

pub returns-clause-gained : goal.returns-clause-gained
unfolding fields_text
returns-clause-gained c =
    let l = c.loop-k in
    let e : l.k ≡ 8 = omega arith in
    rw e at l.invariant.1
