-- `closest::Best::row` is the body of the outer loop: its own loop offers the candidates of its values in turn. Assumes nothing.
use mathlib.Core.Path.{sym, ap, ◌∙◌}
use lib.Ieee.{lt}
use Rattle.units.proofs.Order.{lt_of}
use Rattle.closest_laws.specs.Loops.{first_two}
use Rattle.closest_laws.specs.Closest.{inner}
use Rattle.closest_laws.proofs.Steps.{each_turn, each_done}
use Rattle.closest_laws.proofs.Search.{outer-take}
use Rattle.closest_points.specs.Code.{values_of}
use Rattle.closest_points.proofs.Ranges.{value_taken, values_end}
use Rattle.closest.specs.Code.{play_view, best_view}
use Rattle.closest.proofs.Best.row.Goals as goal

pub loop-new300-preserved : goal.loop-new300-preserved
loop-new300-preserved c =
    let x = c.args in
    let step = c.in-Some.ensures.steps in (
      each_turn lt (inner first_two (play_view x.play) x.new320.0) _ _ _ _ _ _ (value_taken c.loop-new300.new300-iterator c.next.new.self c.in-Some.new300 step) c.attempt-best.ensures c.loop-new300.invariant.0,
      rw step.0 c.loop-new300.invariant.1,
    )

pub returns : goal.returns
returns c =
    let x = c.args in
    outer-take first_two (play_view x.play) x.new320.0 (values_of c.into_iter-new300-iterator.result) (best_view x.self) (best_view c.loop-new300.best)
    (rw (← c.min_space_needed.ensures, ← c.sub.ensures) (sym (lt_of _ _ _ c.lt.ensures) ∙ c.if-lt.false))
    (ap values_of c.into_iter-new300-iterator.ensures.into_iter_gives ∙ c.n300_values-new300-items.ensures.0)
    (each_done lt (inner first_two (play_view x.play) x.new320.0) _ _ _ (values_end c.loop-new300.new300-iterator c.next.new.self c.in-None.ensures.steps) c.loop-new300.invariant.0)
