-- `by_formula`: step 1, then the stride at each place.
use mathlib.Core.Path.{sym}
use Rattle.plan.proofs.Strides.{nothing, strides-at}
use Rattle.plan.proofs.by_formula.Goals as goal

pub returns : goal.returns
returns c =
    let x = c.args in
    rw (c.stride_at-5.ensures 0, c.stride_at-4.ensures 0, c.stride_at-3.ensures 0, c.stride_at-2.ensures 0, c.stride_at.ensures 0, c.lightest-c.ensures nothing, c.heaviest-a.ensures nothing, c.folded-p.ensures)
    (sym (strides-at x.weights x.presence))
