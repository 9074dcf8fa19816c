use Prim.Native.Nat.{◌+◌, ◌*◌, ◌≤◌}
use Rattle.lists.specs.Lists.{joined}
use Rattle.text.specs.Written.{Gained}
use Rattle.stride_text.specs.StrideText.{stride_line}
use Rattle.stride_text.proofs.put_lines.Given as goal

abbrev pub invariant-loop-i : goal.invariant-loop-i
invariant-loop-i l = (l.text.len ≤ l.initial.text.len + 55 * l.i) × Gained l.initial.text l.text (joined (stride_line l.table) l.i)
