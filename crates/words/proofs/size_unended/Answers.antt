-- `words::size_unended` meets its contract. Assumes nothing.
use mathlib.Core.Path.{◌≡◌}
use Prim.Native.Nat.{suc, ◌-◌}
use native.Mathlib.Omega.{arith}
use lib.ListN.{length}
use Rattle.words.proofs.Sizes.{unended_cr, unended_other, unended-none}
use Rattle.words.proofs.size_unended.Goals as goal

pub returns-then-n-eq0 : goal.returns-then-n-eq0
returns-then-n-eq0 c =
    let s = c.args.s.now in
    (omega arith, unended-none s c.if-n-eq0.true)

pub returns-then-s-n-eq13 : goal.returns-then-s-n-eq13
returns-then-s-n-eq13 c =
    let s = c.args.s.now in
    (omega arith, unended_cr s (length s - 1) (omega arith) c.if-s-n-eq13.true)

pub returns : goal.returns
returns c =
    let s = c.args.s.now in
    let e : suc (length s - 1) ≡ length s = omega arith in
    (omega arith, rw (← e) (unended_other s (length s - 1) (omega arith) c.if-s-n-eq13.false))
