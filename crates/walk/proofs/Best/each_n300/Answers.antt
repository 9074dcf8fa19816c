-- `each_n300` settles all settings of all middles: the law of a middle's loop, for each of the three.
use mathlib.Core.Path.{sym, ◌∙◌}
use Rattle.walk.proofs.Level.{run_start, run_over, run_end, run_fits, run_set, run_ready, run_on}
use Rattle.walk.proofs.Best.each_n300.Goals as goal

pub loop-n300-init : goal.loop-n300-init
loop-n300-init c = run_start c.requires.0 c.requires.1 c.requires.1.slots.n300 c.turns-n300-end.ensures

pub loop-n200-init : goal.loop-n200-init
loop-n200-init c =
    let r = c.loop-n300.invariant in
    let t = c.loop-n300-test.true in
    rw c.set.ensures (run_start (run_fits r t) (run_ready r t) r.ready.slots.n200 (rw c.set.ensures at c.turns-n200-end.ensures))

pub set-requires-in-loop-n200 : goal.set-requires-in-loop-n200
set-requires-in-loop-n200 c = run_set c.loop-n200.invariant c.loop-n200-test.true

pub loop-n100-init : goal.loop-n100-init
loop-n100-init c =
    let r = c.loop-n200.invariant in
    let t = c.loop-n200-test.true in
    rw c.set-in-loop-n200.ensures (run_start (run_fits r t) (run_ready r t) r.ready.slots.n100 (rw c.set-in-loop-n200.ensures at c.turns-n100-end.ensures))

pub returns-then-over : goal.returns-then-over
returns-then-over c =
    let e = c.over.ensures in
    let o = c.if-over.true in
    let inner = rw c.set-in-loop-n200.ensures at (run_over c.loop-n100.invariant e o) in
    let outer = rw c.set.ensures at (run_over (run_on c.loop-n200.invariant c.loop-n200-test.true inner) e o) in
    run_over (run_on c.loop-n300.invariant c.loop-n300-test.true outer) e o

pub set-requires-in-loop-n100 : goal.set-requires-in-loop-n100
set-requires-in-loop-n100 c = run_set c.loop-n100.invariant c.loop-n100-test.true

pub both-best-requires : goal.both-best-requires
both-best-requires c =
    let r = c.loop-n100.invariant in
    let t = c.loop-n100-test.true in
    rw c.set-in-loop-n100.ensures (run_fits r t, run_ready r t, sym c.over.ensures ∙ c.if-over.false)

pub loop-n100-preserved : goal.loop-n100-preserved
loop-n100-preserved c = run_on c.loop-n100.invariant c.loop-n100-test.true (rw c.set-in-loop-n100.ensures at c.both-best.ensures)

pub loop-n200-preserved : goal.loop-n200-preserved
loop-n200-preserved c =
    run_on c.loop-n200.invariant c.loop-n200-test.true (rw c.set-in-loop-n200.ensures at (run_end c.loop-n100.invariant c.loop-n100-test.false))

pub loop-n300-preserved : goal.loop-n300-preserved
loop-n300-preserved c =
    run_on c.loop-n300.invariant c.loop-n300-test.true (rw c.set.ensures at (run_end c.loop-n200.invariant c.loop-n200-test.false))

pub returns : goal.returns
returns c = run_end c.loop-n300.invariant c.loop-n300-test.false
