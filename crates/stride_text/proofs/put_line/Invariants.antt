use Prim.Native.Nat.{◌+◌, ◌*◌, ◌≤◌}
use Rattle.lists.specs.Lists.{joined}
use Rattle.text.specs.Written.{Gained}
use Rattle.stride_text.proofs.Lines.{more}
use Rattle.stride_text.proofs.put_line.Given as goal

abbrev pub invariant-loop-n : goal.invariant-loop-n
invariant-loop-n l = (l.text.len ≤ l.initial.text.len + 11 * l.n-index) × Gained l.initial.text l.text (joined (more l.numbers) l.n-index)
