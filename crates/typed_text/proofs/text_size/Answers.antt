-- `typed_text::text_size` meets its contract. Assumes nothing.
use mathlib.Core.Path.{◌≡◌, refl}
use native.Mathlib.Omega.{arith}
use Rattle.typed_text.specs.SheetText.{line_at}
use Rattle.typed_text.proofs.Inside.{placed}
use Rattle.typed_text.proofs.Texts.{length_next}
use Rattle.typed_text.proofs.text_size.Goals as goal

pub loop-j-init : goal.loop-j-init
loop-j-init c = (omega arith, refl)

pub overflow_add-size : goal.overflow_add-size
overflow_add-size c = let w = placed c.args.sheet.now c.args.p c.requires.placed in omega arith

pub loop-j-preserved : goal.loop-j-preserved
loop-j-preserved c =
    let l = c.loop-j in
    (omega arith, omega (arith, length_next (line_at c.args.sheet.now) l.j))

pub returns : goal.returns
returns c =
    let l = c.loop-j in
    let z : l.j ≡ c.args.n = omega arith in
    rw z at l.invariant.1
