-- `Over::of`: what was found of the charts before k, with what is still to be found, is what is to be found of all.
use mathlib.Core.Path.{◌≡◌, sym, ◌∙◌}
use native.Mathlib.Nat.{sub-zero}
use native.Mathlib.Omega.{arith}
use Rattle.relay_laws.specs.Plays.{chart_count}
use Rattle.relay_laws.specs.Checks.{over_chart, over_misses}
use Rattle.relay_plays.proofs.Any.{any_next, any_end}
use Rattle.relay_plays.proofs.Over.of.Goals as goal

pub loop-k-init : goal.loop-k-init
loop-k-init c = (omega arith, rw (sub-zero, c.default-over.ensures.0), rw (sub-zero, c.default-over.ensures.1))

pub loop-k-preserved : goal.loop-k-preserved
loop-k-preserved c =
    let s = c.args.plays.now in
    let l = c.loop-k in
    let e = c.with_chart-over.ensures in (
      omega arith,
      rw e.0 (l.invariant.1 ∙ any_next over_chart s l.over.chart l.k _ c.loop-k-test.true),
      rw e.1 (l.invariant.2 ∙ any_next over_misses s l.over.misses l.k _ c.loop-k-test.true),
    )

pub returns : goal.returns
returns c =
    let s = c.args.plays.now in
    let l = c.loop-k in
    let e : l.k ≡ chart_count s = omega arith in (
      any_end over_chart s l.over.chart (chart_count s) ∙ sym (rw e at l.invariant.1),
      any_end over_misses s l.over.misses (chart_count s) ∙ sym (rw e at l.invariant.2),
    )
