-- `typed_text::write_lines` meets its contract. Assumes nothing.
use mathlib.Core.Path.{◌≡◌}
use Prim.Native.Nat.{◌+◌}
use native.Mathlib.Omega.{arith}
use Rattle.text.proofs.Written.{nothing, next_piece}
use Rattle.typed_text.specs.SheetText.{line_at}
use Rattle.typed_text.proofs.Texts.{length_next, length_upto}
use Rattle.typed_text.proofs.write_lines.Goals as goal

pub loop-j-init : goal.loop-j-init
loop-j-init c = nothing c.args.text.now (omega (arith, c.requires.room))

pub write_line-requires-clause-room : goal.write_line-requires-clause-room
write_line-requires-clause-room c =
    let l = c.loop-j in
    let x = c.args in
    let f = line_at x.sheet.now in
    omega (arith, l.invariant.ends, l.invariant.same_length, length_next f l.j, length_upto f (l.j + 1) x.n (omega arith), c.requires.room)

pub loop-j-preserved : goal.loop-j-preserved
loop-j-preserved c =
    let l = c.loop-j in
    next_piece (line_at c.args.sheet.now) l.j l.invariant c.write_line.ensures

pub returns : goal.returns
returns c =
    let l = c.loop-j in
    let z : l.j ≡ c.args.n = omega arith in
    rw z at l.invariant
