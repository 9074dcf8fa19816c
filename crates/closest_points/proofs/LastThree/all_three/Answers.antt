-- `closest_points::LastThree::all_three`: the loop offers the candidates of its values in turn. Assumes nothing.
use mathlib.Core.Path.{ap, ◌∙◌}
use Rattle.closest_laws.specs.Loops.{scan, nearer}
use Rattle.closest_laws.proofs.Steps.{each_turn, each_done, all-is}
use Rattle.closest_points.specs.Code.{values_of, last_view, near_by}
use Rattle.closest_points.proofs.Ranges.{value_taken, values_end}
use Rattle.closest_points.proofs.LastThree.all_three.Goals as goal
use Rattle.closest_points.proofs.LastThree.all_three.Invariants.{tries}

pub loop-new200-preserved : goal.loop-new200-preserved
unfolding scan
loop-new200-preserved c =
    let step = c.in-Some.ensures.steps in (
      each_turn nearer (tries c.args.self) _ _ _ _ _ _ (value_taken c.loop-new200.new200-iterator c.next.new.self c.in-Some.new200 step) c.last_at-near.ensures c.loop-new200.invariant.0,
      rw step.0 c.loop-new200.invariant.1,
    )

pub returns : goal.returns
returns c =
    let s = c.args.self in
    all-is s.remain.0 s.earned.0 s.target.0 (values_of c.into_iter-new200-iterator.result) (near_by last_view c.loop-new200.near)
    (ap values_of c.into_iter-new200-iterator.ensures.into_iter_gives ∙ c.n200_values-new200-items.ensures.0)
    (each_done nearer (tries s) _ _ _ (values_end c.loop-new200.new200-iterator c.next.new.self c.in-None.ensures.steps) c.loop-new200.invariant.0)
