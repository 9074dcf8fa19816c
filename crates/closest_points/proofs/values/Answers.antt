-- `closest_points::values`: one value where the count is given, and otherwise the first two. Assumes nothing.
use mathlib.Core.Path.{◌∙◌}
use native.Mathlib.Omega.{arith}
use Rattle.units.proofs.Order.{min_of}
use Rattle.closest_laws.proofs.Steps.{values_one, values_two}
use Rattle.closest_points.proofs.values.Goals as goal

pub returns-in-Some : goal.returns-in-Some
returns-in-Some c =
    (rw (c.new.ensures.exhausted, c.new.ensures.start, c.new.ensures.end, c.in-Some.is) (values_one c.in-Some.n c.args.room.0 _ _ c.min-clamped.result c.min-clamped.ensures), omega (arith, c.new.ensures.end, c.min-clamped.ensures))

pub returns-in-None : goal.returns-in-None
returns-in-None c =
    let lo = min_of c.args.room c.steps.result.count _ c.min-min_val.ensures in
    let most = min_of c.args.room c.add.result _ c.min-max_val.ensures in
    let second = min_of c.min-max_val.result c.add-in-None.result _ c.min-second.ensures in (
      rw (c.new-in-None.ensures.exhausted, c.new-in-None.ensures.start, c.new-in-None.ensures.end, c.in-None.is) (values_two c.args.room.0 _ _ c.min-min_val.result.0 c.min-max_val.result.0 c.min-second.result.0
          (lo ∙ rw (c.steps.ensures.0, c.saturating_sub-min_raw.ensures, c.mul.ensures)) (most ∙ rw (c.add.ensures, c.div_ceil.ensures.0)) (second ∙ rw c.add-in-None.ensures)),
      omega (arith, c.new-in-None.ensures.end, second, most),
    )
