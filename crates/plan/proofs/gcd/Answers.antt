-- `gcd`: a turn of Euclid's loop keeps the greatest common divisor.
use mathlib.Core.Path.{sym, ◌∙◌}
use native.Mathlib.Nat.{mod-lt}
use native.Mathlib.Omega.{arith}
use Rattle.nearest_laws.proofs.Exchange.{gcd_step, gcd_end}
use Rattle.plan.proofs.gcd.Goals as goal

pub loop-q-smaller : goal.loop-q-smaller
loop-q-smaller c = mod-lt c.loop-q.p (omega arith)

pub loop-q-preserved : goal.loop-q-preserved
loop-q-preserved c = sym (gcd_step c.loop-q.p c.loop-q.q c.loop-q-test.true) ∙ c.loop-q.invariant

pub returns : goal.returns
returns c = sym (gcd_end c.loop-q.p c.loop-q.q c.loop-q-test.false) ∙ c.loop-q.invariant
