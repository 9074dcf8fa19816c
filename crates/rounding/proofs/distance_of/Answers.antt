-- `rounding::distance_of` meets its contract. Each arm returns what `cond` picks where `d < 0.0` is as the arm's test found it. Assumes nothing.
use mathlib.Core.Path.{sym, ap}
use mathlib.Core.Bool.{Bool, cond}
use lib.Ieee.{binary64, sub, neg, of_bits}
use Rattle.rounding.specs.Distance.{distance}
use Rattle.rounding.proofs.distance_of.Goals as goal

-- `rounding::distance_of` meets its contract. Each arm returns what `cond` picks where `d < 0.0` is as the arm's test found it. Assumes nothing.
pub returns-then-d : goal.returns-then-d
unfolding distance of_bits
returns-then-d c =
    let d = sub binary64 c.args.a c.args.b in
    sym (ap (λ (t : Bool). cond t (neg d) d) c.if-d.true)

pub returns-else-d : goal.returns-else-d
unfolding distance of_bits
returns-else-d c =
    let d = sub binary64 c.args.a c.args.b in
    sym (ap (λ (t : Bool). cond t (neg d) d) c.if-d.false)
