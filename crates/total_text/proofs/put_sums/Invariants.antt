use Prim.Native.Nat.{◌+◌, ◌*◌, ◌≤◌}
use Rattle.lists.specs.Lists.{joined}
use Rattle.text.specs.Written.{Gained}
use Rattle.total_text.specs.TotalText.{sum_text}
use Rattle.total_text.proofs.put_sums.Given as goal

abbrev pub invariant-loop-n : goal.invariant-loop-n
invariant-loop-n l = (l.text.len ≤ l.initial.text.len + 21 * l.n-index) × Gained l.initial.text l.text (joined (sum_text l.seven) l.n-index)
