-- `deal_all`: the numbers of the charts before k are written, and the others are those of what is left.
use mathlib.Core.Path.{◌≡◌, refl}
use native.Mathlib.Nat.{sub-zero}
use native.Mathlib.Omega.{arith}
use lib.ListN.{length}
use Rattle.nearest.specs.Outcome.{five_of}
use Rattle.relay_laws.specs.Plays.{chart_count}
use Rattle.relay_deal.proofs.Written.{written-first, Written-next, written_all}
use Rattle.relay_deal.proofs.deal_all.Goals as goal

pub loop-k-init : goal.loop-k-init
loop-k-init c =
    let x = c.args.plays in
    let s = x.numbers.now in
    written-first x.classic s (chart_count s) _ c.args.out.now (five_of c.args.pool) (rw sub-zero)

pub loop-k-preserved : goal.loop-k-preserved
loop-k-preserved c =
    let x = c.args.plays in
    let s = x.numbers.now in
    let l = c.loop-k in
    let d = c.deal_chart-left in
    let same : length d.new.out ≡ length l.out = omega arith in
    Written-next x.classic s (chart_count s) _ c.args.out.now l.out d.new.out (five_of l.left) (five_of d.result) l.k
    l.invariant (omega arith) refl (omega (arith, c.requires)) same d.ensures.out_after d.ensures.result_value

pub returns : goal.returns
returns c =
    let x = c.args.plays in
    let s = x.numbers.now in
    let l = c.loop-k in
    let w = l.invariant in
    let e : l.k ≡ chart_count s = omega (arith, w.few) in
    written_all x.classic s (chart_count s) _ c.args.out.now l.out (five_of l.left) (rw e at w)

pub deal_chart-left-requires : goal.deal_chart-left-requires
deal_chart-left-requires c = (omega arith, omega (arith, c.requires, c.loop-k.invariant.same))

pub shape_of-out : goal.shape_of-out
shape_of-out c = c.loop-k.invariant.same
