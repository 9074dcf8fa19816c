-- `closest_points::TwoVars::solve_two_vars`: where the weights differ, four splits are tried. Assumes nothing.
use mathlib.Core.Path.{◌∙◌}
use Rattle.units.proofs.Order.{min_of}
use Rattle.closest_laws.proofs.Fills.{solved_by_four}
use Rattle.closest_points.proofs.TwoVars.solve_two_vars.Goals as goal

pub returns : goal.returns
returns c =
    let s = c.args.self in
    let floor = min_of s.remain_hits c.steps.result.count _ c.min-floor.ensures in
    let ceil = min_of s.remain_hits c.div_ceil.result _ c.min-ceil.ensures in
    solved_by_four s.w1 s.w2 s.target.0 s.remain_hits.0 s.provided_sum.0 c.if-self.false
    (c.saturating_sub-raw_x.ensures ∙ rw (c.add.ensures, c.mul.ensures)) (floor ∙ rw c.steps.ensures.0) (ceil ∙ rw c.div_ceil.ensures.0)
    c.best_of_four.ensures
