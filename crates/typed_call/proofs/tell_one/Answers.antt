-- `typed_call::tell_one` meets its contract. Assumes nothing.
use native.Mathlib.Omega.{arith}
use Rattle.typed_call.proofs.Told.{set-one}
use Rattle.typed_call.proofs.tell_one.Goals as goal

pub returns : goal.returns
returns c = set-one c.args.told.now c.args.a (omega arith)
