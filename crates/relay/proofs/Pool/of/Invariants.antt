use Prim.Native.Nat.{◌+◌, ◌*◌, ◌≤◌}
use mathlib.Core.List.{map}
use mathlib.Core.Path.{◌≡◌}
use Rattle.units.specs.Limits.{most_hits}
use Rattle.score_state.specs.Points.{hits}
use Rattle.relay_laws.specs.Plays.{chart_count, plays_of, total_of, remain_of}
use Rattle.relay_laws.specs.Relay.{remains}
use Rattle.relay.proofs.Sums.{sum_from}
use Rattle.relay.proofs.Pool.of.Given as goal

abbrev pub invariant-loop-k : goal.invariant-loop-k
invariant-loop-k l =
    let classic = l.plays.classic in
    let s = l.plays.numbers.now in
    (l.k ≤ chart_count s)
    × (hits (map (total_of classic) (plays_of s)) ≡ l.pool.total.0 + sum_from (total_of classic) s l.k (chart_count s))
    × (hits (remains classic (plays_of s)) ≡ l.pool.remain.0 + sum_from (remain_of classic) s l.k (chart_count s))
    × (l.pool.total.0 ≤ most_hits * l.k)
    × (l.pool.remain.0 ≤ most_hits * l.k)
