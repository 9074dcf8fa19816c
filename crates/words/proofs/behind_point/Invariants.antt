use mathlib.Core.Path.{◌≡◌}
use Prim.Native.Nat.{◌*◌, ◌^◌, ◌<◌, ◌≤◌}
use lib.ListN.{length, drop}
use Rattle.words.specs.Values.{behind_point}
use Rattle.words.proofs.behind_point.Given as goal

abbrev pub invariant-loop-b : goal.invariant-loop-b
invariant-loop-b l = (l.b-index ≤ length l.w) × (l.k ≤ 12) × (l.q ≡ 100 * 10 ^ l.k) × (l.n < 1000 * 10 ^ l.k) × (behind_point (drop l.b-index l.w) l.n l.k ≡ behind_point l.w l.v 0)
