use mathlib.Core.Path.{◌≡◌}
use Prim.Native.Nat.{◌-◌, ◌*◌, ◌^◌, ◌≤◌}
use Rattle.percent.specs.Percent.{percent_from, shortest}
use Rattle.percent.proofs.percentage_of.Given as goal

abbrev pub invariant-loop-k : goal.invariant-loop-k
invariant-loop-k l = (l.k ≤ 13) × (l.q ≡ 100 * 10 ^ l.k) × (percent_from (13 - l.k) l.k l.bits ≡ shortest l.bits)
