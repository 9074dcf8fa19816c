-- The loop of `totals::totals_of`: the totals are those of the first k answers, and k numbers of 32 bits bound each.
use Prim.Native.Nat.{◌*◌}
use mathlib.Core.Path.{◌≡◌}
use Rattle.totals.specs.Totals.{totals_over, seven_of, Within}
use Rattle.totals.proofs.totals_of.Given as goal

abbrev pub invariant-loop-k : goal.invariant-loop-k
invariant-loop-k l = (seven_of l.totals ≡ totals_over l.out l.k) × Within (4294967295 * l.k) l.totals
