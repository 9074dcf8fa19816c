use mathlib.Core.Path.{◌≡◌}
use Prim.Native.Nat.{◌+◌}
use lib.ListN.{take}
use Rattle.text.specs.Written.{Gained}
use Rattle.fault_text.specs.FaultText.{shown}
use Rattle.fault_text.proofs.put_shown.Given as goal

abbrev pub invariant-loop-b : goal.invariant-loop-b
invariant-loop-b l = (l.text.len ≡ l.initial.text.len + l.b-index) × Gained l.initial.text l.text (shown (take l.b-index l.word))
