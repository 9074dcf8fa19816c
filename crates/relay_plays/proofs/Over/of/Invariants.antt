use Prim.Native.Nat.{◌-◌, ◌≤◌}
use mathlib.Core.Bool.{◌||◌}
use mathlib.Core.Path.{◌≡◌}
use Rattle.relay_laws.specs.Consecutive.{consecutive}
use Rattle.relay_laws.specs.Plays.{play_at, chart_count, plays_of}
use Rattle.relay_laws.specs.Checks.{any_of, over_chart, over_misses}
use Rattle.relay_plays.proofs.Over.of.Given as goal

abbrev pub invariant-loop-k : goal.invariant-loop-k
invariant-loop-k l =
    (l.k ≤ chart_count l.plays)
    × (any_of over_chart (plays_of l.plays) ≡ (l.over.chart || any_of over_chart (consecutive (play_at l.plays) l.k (chart_count l.plays - l.k))))
    × (any_of over_misses (plays_of l.plays) ≡ (l.over.misses || any_of over_misses (consecutive (play_at l.plays) l.k (chart_count l.plays - l.k))))
