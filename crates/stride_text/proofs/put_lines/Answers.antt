-- `put_lines`: the lines before i stand in the text.
use mathlib.Core.Path.{◌≡◌, ap}
use Prim.Native.Nat.{◌+◌, ◌-◌, ◌*◌}
use native.Mathlib.Omega.{arith}
use lib.ListN.{length, take, drop, length-take, length-drop}
use Rattle.text.proofs.Written.{nothing, restated, next_piece}
use Rattle.stride_text.specs.StrideText.{line_text, stride_line, strides_text}
use Rattle.stride_text.proofs.put_lines.Goals as goal

pub loop-i-init : goal.loop-i-init
loop-i-init c = (omega arith, nothing c.args.text.now (omega arith))

pub loop-i-preserved : goal.loop-i-preserved
unfolding stride_line
loop-i-preserved c =
    let l = c.loop-i in
    let i = l.i in
    let table = c.args.table.now in
    let e : 5 * i + 5 - 5 * i ≡ 5 = omega arith in
    let n : length (take (5 * i + 5 - 5 * i) (drop (5 * i) table)) ≡ 5 = simp (length-take, length-drop) (omega arith) in
    let one = restated c.put_line.ensures.gained (ap (λ m. line_text (take m (drop (5 * i) table))) e) in
    (omega arith, next_piece (stride_line table) i l.invariant.1 one)

pub returns : goal.returns
unfolding strides_text
returns c =
    let l = c.loop-i in
    let e : l.i ≡ 64 = omega arith in
    rw e at l.invariant.1
