use mathlib.Core.Path.{◌≡◌}
use Rattle.nearest_laws.specs.Walk.{gcd}
use Rattle.plan.proofs.gcd.Given as goal

abbrev pub invariant-loop-q : goal.invariant-loop-q
invariant-loop-q l = gcd l.p l.q ≡ gcd l.initial.p l.initial.q

abbrev pub decreases-loop-q : goal.decreases-loop-q
decreases-loop-q l = l.q
