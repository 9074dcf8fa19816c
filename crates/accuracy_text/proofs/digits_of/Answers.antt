-- `accuracy_text::digits_of` meets its contract. Assumes nothing.
use mathlib.Core.Path.{◌≡◌, refl, ◌∙◌}
use Prim.Native.Nat.{◌+◌, ◌-◌}
use native.Mathlib.Nat.{mod-lt}
use native.Mathlib.Omega.{arith}
use lib.ListN.{length-set}
use Rattle.accuracy_text.specs.AccuracyText.{last_digits}
use Rattle.accuracy_text.proofs.Pieces.{letter_before}
use Rattle.accuracy_text.proofs.digits_of.Goals as goal

pub loop-i-init : goal.loop-i-init
loop-i-init c = (refl, refl)

pub hex_letter-requires : goal.hex_letter-requires
hex_letter-requires c =
    omega (arith, mod-lt c.loop-i.left c.requires.0)

pub loop-i-preserved : goal.loop-i-preserved
loop-i-preserved c =
    let l = c.loop-i in
    let k = 16 - l.i in
    let e : 15 - l.i ≡ 16 - l.i - 1 = omega arith in
    let f : 16 - (l.i + 1) ≡ 16 - l.i - 1 = omega arith in
    (length-set l.digits (15 - l.i) c.hex_letter.result ∙ l.invariant.0, rw (e, f) (letter_before c.args.base k l.left c.hex_letter.result l.digits _ (omega arith) (omega arith) c.hex_letter.ensures l.invariant.1))

pub returns : goal.returns
unfolding last_digits
returns c =
    let l = c.loop-i in
    let z : 16 - l.i ≡ 0 = omega arith in
    rw z at l.invariant.1
