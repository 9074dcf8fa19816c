use Prim.Native.Nat.{◌≤◌}
use mathlib.Core.Path.{◌≡◌}
use lib.Ieee.{lt}
use Rattle.std.specs.Range.{range_inclusive_end}
use Rattle.closest_laws.specs.Loops.{first_two, each, scan}
use Rattle.closest_laws.specs.Closest.{outer}
use Rattle.closest_points.specs.Code.{values_of}
use Rattle.closest.specs.Code.{play_view, best_view}
use Rattle.closest.proofs.Play.optimize_three_plus_missing.Given as goal

abbrev pub invariant-loop-new320 : goal.invariant-loop-new320
invariant-loop-new320 l =
    (scan lt (each (values_of l.new320-iterator) (outer first_two (play_view l.self))) (best_view l.best)
    ≡ scan lt (each (values_of l.initial.new320-iterator) (outer first_two (play_view l.self))) (best_view l.initial.best))
    × (range_inclusive_end l.new320-iterator ≤ l.self.remain.0)
