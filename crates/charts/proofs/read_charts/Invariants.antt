-- The loop of `charts::read_charts`: the charts read so far stand in front of the array.
use Rattle.std.proofs.Common.{◌≡◌, length, take}
use Rattle.charts.specs.Charts.{charts_at}
use Rattle.charts.proofs.read_charts.Given as goal

abbrev pub invariant-loop-i : goal.invariant-loop-i
invariant-loop-i l = (length l.charts ≡ 256) × (take l.i l.charts ≡ charts_at l.s l.at l.i)
