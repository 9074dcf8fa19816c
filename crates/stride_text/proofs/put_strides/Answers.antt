-- `put_strides`: the length, then the weights, then the lines.
use mathlib.Core.Path.{refl, ap, ◌∙◌}
use native.Mathlib.Omega.{arith}
use lib.ListN.{replicate}
use Rattle.refusals.specs.Refusal.{number_of}
use Rattle.refusals.proofs.Numbers.{never_zero}
use Rattle.text.specs.Text.{refused_text}
use Rattle.text.proofs.Written.{restated}
use Rattle.stride_text.proofs.Printed.{other_length, bad_weights, good-weights}
use Rattle.stride_text.proofs.put_strides.Goals as goal

pub returns-then-weights-ne40 : goal.returns-then-weights-ne40
returns-then-weights-ne40 c = restated c.put_refused.ensures (ap refused_text c.into.ensures ∙ other_length c.args.weights.now c.if-weights-ne40.true)

pub returns-in-Ok : goal.returns-in-Ok
returns-in-Ok c =
    let s = c.args.weights.now in
    let w = c.read_weights-first in
    let v = c.read_weights-second in
    let n = c.in-Ok.ensures in
    restated c.put_lines.ensures (good-weights s (omega arith) w.result v.result (replicate 320 0) 0 w.ensures v.ensures refl n.status _ refl n.numbers)

pub returns-in-Err : goal.returns-in-Err
returns-in-Err c =
    let s = c.args.weights.now in
    let w = c.read_weights-first in
    let v = c.read_weights-second in
    let f = c.in-Err.refusal in
    let some = never_zero f in
    restated c.put_refused-in-Err.ensures
    (ap refused_text c.into-in-Err.ensures ∙ bad_weights s (omega arith) w.result v.result (replicate 320 0) (number_of f) w.ensures v.ensures refl c.in-Err.ensures.status (λ z. omega arith))
