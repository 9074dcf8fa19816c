use Prim.Native.Nat.{◌+◌, ◌*◌, ◌≤◌}
use Rattle.lists.specs.Lists.{joined}
use Rattle.text.specs.Written.{Gained}
use Rattle.row_text.specs.RowText.{row_text}
use Rattle.table.proofs.put_rows.Given as goal

abbrev pub invariant-loop-i : goal.invariant-loop-i
invariant-loop-i l = (l.text.len ≤ l.initial.text.len + 105 * l.i) × Gained l.initial.text l.text (joined (row_text l.out) l.i)
