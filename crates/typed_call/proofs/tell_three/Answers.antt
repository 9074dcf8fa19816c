-- `typed_call::tell_three` meets its contract. Assumes nothing.
use native.Mathlib.Omega.{arith}
use lib.ListN.{length-set}
use Rattle.typed_call.proofs.Told.{set_three}
use Rattle.typed_call.proofs.tell_three.Goals as goal

pub bounds-told-1 : goal.bounds-told-1
bounds-told-1 c = omega (arith, length-set c.args.told.now 0 c.args.a)

pub returns : goal.returns
returns c = set_three c.args.told.now c.args.a c.args.b c.args.c (omega arith)
