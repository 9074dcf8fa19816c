-- `accuracy_text::put_percent` meets its contract. Assumes nothing.
use native.Mathlib.Omega.{arith}
use Rattle.text.proofs.Written.{followed, restated}
use Rattle.accuracy_text.proofs.Pieces.{before_small, whole_percent, pointed_percent}
use Rattle.accuracy_text.proofs.put_percent.Goals as goal

pub overflow_cast-before : goal.overflow_cast-before
overflow_cast-before c =
    omega (arith, before_small c.args.p.digits c.args.p.places c.pow.result c.pow.ensures c.requires.places_bound.1)

pub put_last-requires : goal.put_last-requires
put_last-requires c =
    let b = before_small c.args.p.digits c.args.p.places c.pow.result c.pow.ensures c.requires.places_bound.1 in
    let four = c.put_decimal.ensures.upper_bound_2 (omega arith) in
    (omega arith, omega arith)

pub returns-then-p-gt0 : goal.returns-then-p-gt0
returns-then-p-gt0 c =
    let t = c.pow in
    let b = before_small c.args.p.digits c.args.p.places t.result t.ensures c.requires.places_bound.1 in
    let four = c.put_decimal.ensures.upper_bound_2 (omega arith) in
    let p = followed (followed (followed c.put_byte.ensures c.put_decimal.ensures.gained) c.put_byte-then-p-gt0.ensures) c.put_last.ensures.gained in
    record { gained = restated p (pointed_percent c.args.p.digits c.args.p.places t.result t.ensures (omega arith)); upper_bound = omega arith }

pub returns-else-p-gt0-clause-gained : goal.returns-else-p-gt0-clause-gained
returns-else-p-gt0-clause-gained c =
    restated (followed c.put_byte.ensures c.put_decimal.ensures.gained) (whole_percent c.args.p.digits c.args.p.places c.pow.result c.pow.ensures (omega arith))
