-- `closest::Play::optimize_three_plus_missing`: the loop offers the rows of its values in turn, and the first two rows are enough.
-- Assumes nothing.
use mathlib.Core.Path.{ap, ◌∙◌}
use lib.Ieee.{lt}
use Rattle.closest_laws.specs.Loops.{first_two}
use Rattle.closest_laws.specs.Closest.{outer}
use Rattle.closest_laws.proofs.Bits.{lacks-one}
use Rattle.closest_laws.proofs.Steps.{each_turn, each_done}
use Rattle.closest_laws.proofs.Search.{search_is}
use Rattle.closest_points.specs.Code.{values_of}
use Rattle.closest_points.proofs.Ranges.{value_taken, values_end}
use Rattle.closest.specs.Code.{play_view, best_view}
use Rattle.closest.proofs.Play.optimize_three_plus_missing.Goals as goal

pub loop-new320-preserved : goal.loop-new320-preserved
loop-new320-preserved c =
    let step = c.in-Some.ensures.steps in (
      each_turn lt (outer first_two (play_view c.args.self)) _ _ _ _ _ _ (value_taken c.loop-new320.new320-iterator c.next.new.self c.in-Some.new320 step) c.row-best.ensures c.loop-new320.invariant.0,
      rw step.0 c.loop-new320.invariant.1,
    )

pub returns : goal.returns
returns c =
    let p = c.args.self in
    let n = p.counts in
    let w = p.within in
    search_is (play_view p) w.heavy w.top w.hits (lacks-one p.presence n.n320 n.n300 n.n200 n.n100 n.n50 c.requires)
    (values_of c.into_iter-new320-iterator.result) (best_view c.start-best.result) (best_view c.loop-new320.best)
    (ap values_of c.into_iter-new320-iterator.ensures.into_iter_gives ∙ c.n320_values-new320-items.ensures.0) c.start-best.ensures
    (each_done lt (outer first_two (play_view p)) _ _ _ (values_end c.loop-new320.new320-iterator c.next.new.self c.in-None.ensures.steps) c.loop-new320.invariant.0)
