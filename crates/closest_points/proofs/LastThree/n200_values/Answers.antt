-- `closest_points::LastThree::n200_values`: the first two values of n200. Assumes nothing.
use mathlib.Core.Path.{◌∙◌}
use native.Mathlib.Omega.{arith}
use Rattle.units.proofs.Order.{min_of}
use Rattle.closest_laws.proofs.Steps.{two_values}
use Rattle.closest_points.proofs.LastThree.n200_values.Goals as goal

pub returns : goal.returns
returns c =
    let most = min_of c.args.self.remain c.add-2.result _ c.min-max200.ensures in
    let second = min_of c.min-max200.result c.add-3.result _ c.min-second.ensures in (
      rw (c.new.ensures.exhausted, c.new.ensures.start, c.new.ensures.end) (two_values (c.steps.ensures.0 ∙ rw (c.saturating_sub-min_raw.ensures, c.add.ensures, c.mul.ensures))
          (most ∙ rw (c.add-2.ensures, c.div_ceil.ensures.0, c.saturating_sub-max_raw.ensures)) (second ∙ rw c.add-3.ensures)),
      omega (arith, c.new.ensures.end, second, most),
    )
