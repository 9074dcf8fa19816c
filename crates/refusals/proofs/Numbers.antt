-- No refusal has the number 0, which says that an input was worked. Assumes nothing.
use Prim.Native.Nat.{◌<◌}
use native.Mathlib.Omega.{arith}
use Rattle.refusals.specs.declared.Refusal.{Refusal}
use Rattle.refusals.specs.declared.Refusal.TheVariants.{Cut, ChartsOver, QueriesOver, Followed, Short, NoChart, ChartOver, UnknownCode, LeftOver, CountOver, AccOutside, Overfull, AccMissing, NoSplit, WeightsUnfit, OwnUnfit, RelayCount}
use Rattle.refusals.specs.Refusal.{number_of}

pub never_zero : (r : Refusal) → 0 < number_of r
never_zero Cut = omega arith
never_zero ChartsOver = omega arith
never_zero QueriesOver = omega arith
never_zero Followed = omega arith
never_zero Short = omega arith
never_zero NoChart = omega arith
never_zero ChartOver = omega arith
never_zero UnknownCode = omega arith
never_zero LeftOver = omega arith
never_zero CountOver = omega arith
never_zero AccOutside = omega arith
never_zero Overfull = omega arith
never_zero AccMissing = omega arith
never_zero NoSplit = omega arith
never_zero WeightsUnfit = omega arith
never_zero OwnUnfit = omega arith
never_zero RelayCount = omega arith
