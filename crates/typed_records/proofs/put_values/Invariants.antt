use mathlib.Core.Path.{◌≡◌}
use Prim.Native.Nat.{◌+◌, ◌*◌}
use Rattle.lists.specs.Lists.{joined}
use Rattle.text.specs.Written.{Gained}
use Rattle.typed_records.specs.Records.{value_at}
use Rattle.typed_records.proofs.put_values.Given as goal

abbrev pub invariant-loop-f : goal.invariant-loop-f
invariant-loop-f l = (l.out.len ≡ l.initial.out.len + 4 * l.f) × Gained l.initial.out l.out (joined (value_at l.l) l.f)
