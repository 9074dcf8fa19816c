use mathlib.Core.Path.{◌≡◌}
use Prim.Native.Nat.{◌<◌, ◌≤◌}
use lib.ListN.{length, drop}
use Rattle.words.specs.Values.{before_point}
use Rattle.words.proofs.before_point.Given as goal

abbrev pub invariant-loop-i : goal.invariant-loop-i
invariant-loop-i l = (l.i ≤ length l.w) × (l.n < 1000) × (before_point (drop l.i l.w) l.n ≡ before_point l.w 0)
