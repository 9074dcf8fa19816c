-- `both` settles the two candidates of a setting.
use Prim.Native.Nat.{◌+◌}
use mathlib.Core.Path.{◌≡◌, sym, ◌∙◌}
use native.Mathlib.Omega.{arith}
use borrow.Author.Tests.{ltb-true}
use Rattle.units.specs.Gap.{gap}
use Rattle.units.proofs.Order.{lt_of}
use Rattle.nearest_laws.proofs.Steps.{settle_mono, lowest-le}
use Rattle.walk.specs.Code.{view, both_of, trial_of}
use Rattle.walk.proofs.Level.{low_next, low_fits, after_low, lower_over, lower_end, lower_tried, lower_on}
use Rattle.walk.proofs.Best.both.Goals as goal

pub attempt-next-requires : goal.attempt-next-requires
attempt-next-requires c =
    let x = c.args in (
      omega (arith, c.lowest-low.ensures.top, lowest-le x.plan.a x.plan.c x.plan.target.0 x.at.left.0 x.at.points.0),
      omega (arith, settle_mono x.plan.target.0 (both_of x.plan x.at) (view x.self), c.requires.1.tried),
    )

pub returns-then-over : goal.returns-then-over
returns-then-over c =
    lower_over (after_low c.lowest-low.ensures c.add.ensures c.attempt-next.ensures c.requires.2) c.over.ensures c.if-over.true

pub add-requires-then-lt : goal.add-requires-then-lt
add-requires-then-lt c =
    low_fits c.lowest-low.ensures c.requires.1.order (ltb-true _ _ (sym (lt_of _ _ _ c.lt.ensures) ∙ c.if-lt.true)) c.requires.0

pub attempt-requires : goal.attempt-requires
attempt-requires c = (
  omega (arith, ltb-true c.lowest-low.result.top.0 c.args.at.left.0 (sym (lt_of _ _ _ c.lt.ensures) ∙ c.if-lt.true)),
  omega (arith, lower_tried (after_low c.lowest-low.ensures c.add.ensures c.attempt-next.ensures c.requires.2), c.requires.1.tried),
)

pub returns-then-lt : goal.returns-then-lt
returns-then-lt c =
    let e = lt_of _ _ _ c.lt.ensures in
    let l = ltb-true _ _ (sym e ∙ c.if-lt.true) in
    let next
    : c.sub-dist.result.0 ≡ gap (trial_of c.args.plan c.args.at (c.lowest-low.result.top.0 + 1)).points c.args.plan.target.0
    = c.sub-dist.ensures ∙ rw c.add-then-lt.ensures (low_next c.lowest-low.ensures c.requires.1.order l) in
    lower_on (after_low c.lowest-low.ensures c.add.ensures c.attempt-next.ensures c.requires.2) c.over.ensures c.if-over.false e c.if-lt.true
    c.add-then-lt-2.ensures (c.attempt.ensures c.args.plan (rw c.add-then-lt-2.ensures next))

pub returns : goal.returns
returns c =
    lower_end (after_low c.lowest-low.ensures c.add.ensures c.attempt-next.ensures c.requires.2) (lt_of _ _ _ c.lt.ensures) c.if-lt.false
