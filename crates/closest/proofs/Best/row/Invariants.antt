use Prim.Native.Nat.{◌-◌, ◌≤◌}
use mathlib.Core.Path.{◌≡◌}
use lib.Ieee.{lt}
use Rattle.std.specs.Range.{range_inclusive_end}
use Rattle.closest_laws.specs.Loops.{first_two, each, scan}
use Rattle.closest_laws.specs.Closest.{inner}
use Rattle.closest_points.specs.Code.{values_of}
use Rattle.closest.specs.Code.{play_view, best_view}
use Rattle.closest.proofs.Best.row.Given as goal

abbrev pub invariant-loop-new300 : goal.invariant-loop-new300
invariant-loop-new300 l =
    (scan lt (each (values_of l.new300-iterator) (inner first_two (play_view l.play) l.new320.0)) (best_view l.best)
    ≡ scan lt (each (values_of l.initial.new300-iterator) (inner first_two (play_view l.play) l.new320.0)) (best_view l.initial.best))
    × (range_inclusive_end l.new300-iterator ≤ l.play.remain.0 - l.new320.0)
