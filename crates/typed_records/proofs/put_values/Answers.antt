-- `typed_records::put_values` meets its contract. Assumes nothing.
use mathlib.Core.Path.{◌≡◌}
use native.Mathlib.Omega.{arith}
use Rattle.text.proofs.Written.{nothing, next_piece}
use Rattle.typed_records.specs.Records.{value_at, value_bytes}
use Rattle.typed_records.proofs.put_values.Goals as goal

pub loop-f-init : goal.loop-f-init
loop-f-init c = (omega arith, nothing c.args.out.now (omega arith))

pub loop-f-preserved : goal.loop-f-preserved
loop-f-preserved c =
    let l = c.loop-f in
    (omega arith, next_piece (value_at c.args.l) l.f l.invariant.1 (rw (← c.value_of.ensures) c.put_number.ensures.gained))

pub returns : goal.returns
unfolding value_bytes
returns c =
    let l = c.loop-f in
    let e : l.f ≡ c.args.n = omega arith in
    record { gained = rw (← e) l.invariant.1; value = omega arith }
