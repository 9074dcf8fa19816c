-- `strides_of`: a standard weighting's row of the table, or the formula.
use mathlib.Core.Bool.{true, false}
use mathlib.Core.Path.{sym, ◌∙◌}
use Rattle.plan.proofs.Rows.{row_of-weights}
use Rattle.plan.proofs.strides_of.Goals as goal

pub returns-then-eq : goal.returns-then-eq
returns-then-eq c =
    let x = c.args in
    let s = c.standard_weights in
    c.stride_row.ensures ∙ row_of-weights false x.presence x.weights s.result (sym c.eq.ensures ∙ c.if-eq.true) s.ensures.0

pub returns-then-eq-2 : goal.returns-then-eq-2
returns-then-eq-2 c =
    let x = c.args in
    let s = c.standard_weights-2 in
    c.stride_row-then-eq-2.ensures ∙ row_of-weights true x.presence x.weights s.result (sym c.eq-2.ensures ∙ c.if-eq-2.true) s.ensures.0
