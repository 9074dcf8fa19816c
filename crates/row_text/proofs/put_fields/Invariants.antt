use Prim.Native.Nat.{◌+◌, ◌*◌, ◌≤◌}
use Rattle.lists.specs.Lists.{joined}
use Rattle.text.specs.Written.{Gained}
use Rattle.row_text.specs.RowText.{field_text}
use Rattle.row_text.proofs.put_fields.Given as goal

abbrev pub invariant-loop-k : goal.invariant-loop-k
invariant-loop-k l = (l.text.len ≤ l.initial.text.len + 11 * l.k) × Gained l.initial.text l.text (joined (field_text l.out l.from) l.k)
