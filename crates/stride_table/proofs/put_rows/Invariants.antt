use mathlib.Core.Path.{◌≡◌}
use mathlib.Core.List.{◌++◌}
use Prim.Native.Nat.{◌*◌}
use lib.ListN.{length, drop}
use Rattle.lists.specs.Lists.{joined}
use Rattle.score_state.specs.Points.{weights_of}
use Rattle.stride_rows.specs.Strides.{row_rule}
use Rattle.stride_table.proofs.put_rows.Given as goal

abbrev pub invariant-loop-r : goal.invariant-loop-r
invariant-loop-r l = (length l.out ≡ length l.initial.out) × (l.out ≡ joined (row_rule (weights_of l.first) (weights_of l.second)) l.r ++ drop (5 * l.r) l.initial.out)
