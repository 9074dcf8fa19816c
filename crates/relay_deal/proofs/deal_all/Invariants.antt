use mathlib.Core.List.{map}
use Rattle.nearest.specs.Outcome.{five_of}
use Rattle.relay_laws.specs.Plays.{chart_count, plays_of, misses_of}
use Rattle.relay_laws.specs.Pool.{deals}
use Rattle.relay_laws.specs.Relay.{remains, sixes}
use Rattle.relay_deal.proofs.Written.{Written}
use Rattle.relay_deal.proofs.deal_all.Given as goal

abbrev pub invariant-loop-k : goal.invariant-loop-k
invariant-loop-k l =
    let classic = l.plays.classic in
    let s = l.plays.numbers.now in
    Written classic s (chart_count s) (sixes (deals (five_of l.initial.left) (remains classic (plays_of s))) (map (misses_of classic) (plays_of s))) l.initial.out l.out (five_of l.left) l.k
