-- `Pool::of`: what was summed up of the charts before k, with what is still to come, is what is to be summed up of all.
use mathlib.Core.Path.{◌≡◌, ap}
use native.Mathlib.Nat.{sub-zero}
use native.Mathlib.Omega.{arith}
use Rattle.inspect.specs.Inspect.{inspect_of, total_hits, remain}
use Rattle.inspect.specs.declared.Query.{Query}
use Rattle.relay_laws.specs.Plays.{play_at, chart_count, total_of, remain_of}
use Rattle.relay.proofs.Sums.{sum_next, sum_end}
use Rattle.relay.proofs.Pool.of.Goals as goal

pub loop-k-init : goal.loop-k-init
loop-k-init c = (omega arith, rw sub-zero (omega arith), rw sub-zero (omega arith), omega arith, omega arith)

pub with_chart-pool-requires-clause-most_hits_bound : goal.with_chart-pool-requires-clause-most_hits_bound
with_chart-pool-requires-clause-most_hits_bound c =
    let few = c.requires in
    let l = c.loop-k in (omega (arith, l.invariant.3, few), omega (arith, l.invariant.4, few))

pub loop-k-preserved : goal.loop-k-preserved
loop-k-preserved c =
    let x = c.args.plays in
    let s = x.numbers.now in
    let l = c.loop-k in
    let q = c.query.ensures.query in
    let total : total_hits (inspect_of c.query.result) ≡ total_of x.classic (play_at s l.k) = ap (λ (z : Query). total_hits (inspect_of z)) q in
    let left : remain (inspect_of c.query.result) ≡ remain_of x.classic (play_at s l.k) = ap (λ (z : Query). remain (inspect_of z)) q in
    let t = sum_next (total_of x.classic) s l.k (chart_count s) (omega arith) in
    let r = sum_next (remain_of x.classic) s l.k (chart_count s) (omega arith) in
    let e = c.with_chart-pool.ensures in (
      omega arith,
      omega (arith, l.invariant.1, e.total_value.0, total, t),
      omega (arith, l.invariant.2, e.remain_value.0, left, r),
      omega (arith, l.invariant.3, e.total_value.1),
      omega (arith, l.invariant.4, e.remain_value.1),
    )

pub returns : goal.returns
returns c =
    let x = c.args.plays in
    let s = x.numbers.now in
    let l = c.loop-k in
    let e : l.k ≡ chart_count s = omega arith in
    let t = rw e at l.invariant.1 in
    let r = rw e at l.invariant.2 in
    record {
      total_value = (omega (arith, t, sum_end (total_of x.classic) s (chart_count s)), omega (arith, l.invariant.3, c.requires));
      remain_value = (omega (arith, r, sum_end (remain_of x.classic) s (chart_count s)), omega (arith, l.invariant.4, c.requires));
    }
