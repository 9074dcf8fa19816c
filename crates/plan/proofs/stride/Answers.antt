-- `stride` is the definition's q.
use Prim.Native.Nat.{ℕ, ◌-◌, ◌/◌}
use mathlib.Core.Path.{ap}
use native.Mathlib.Omega.{arith}
use Rattle.nearest_laws.specs.Walk.{stride}
use Rattle.nearest_laws.proofs.Exchange.{gcd_pos}
use Rattle.plan.proofs.stride.Goals as goal

pub nonzero_div-result : goal.nonzero_div-result
nonzero_div-result c =
    let x = c.args in
    let h = c.requires in
    omega (arith, c.gcd.ensures, gcd_pos x.a x.c x.b h.0 h.1)

pub returns : goal.returns
unfolding stride
returns c = let x = c.args in ap (λ (z : ℕ). (x.a - x.c) / z) c.gcd.ensures
