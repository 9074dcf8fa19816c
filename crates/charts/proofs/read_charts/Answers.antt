-- Before the first chart none is read; each turn adds one.
use Rattle.std.proofs.Common.{[], refl, ◌∙◌, arith}
use Rattle.std.proofs.lemmas.List.{length-set}
use Rattle.charts.proofs.Listed.{charts_none, charts_next}
use Rattle.charts.proofs.read_charts.Goals as goal

pub loop-i-init : goal.loop-i-init
loop-i-init c = (refl, charts_none c.args.s.now c.args.at [])

pub loop-i-preserved : goal.loop-i-preserved
loop-i-preserved c =
    let l = c.loop-i in
    (length-set l.charts l.i _ ∙ l.invariant.0, charts_next c.args.s.now c.args.at l.charts l.i _ (omega arith) l.invariant.1 c.read_chart.ensures)
