-- `Over::with_chart`: the chart's numbers are those of its place.
use mathlib.Core.Bool.{Bool, ◌||◌}
use mathlib.Core.Path.{refl, ap}
use Rattle.relay_laws.specs.Plays.{play_at}
use Rattle.relay_plays.proofs.Over.with_chart.Goals as goal

pub returns : goal.returns
unfolding play_at
returns c =
    let x = c.args in
    (ap (λ (b : Bool). x.self.chart || b) c.chart_over.ensures, refl)
