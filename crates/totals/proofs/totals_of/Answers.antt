-- `totals::totals_of` meets its contract. Assumes nothing.
use mathlib.Core.Path.{◌≡◌}
use native.Mathlib.Omega.{arith}
use Rattle.totals.proofs.Next.{none_yet}
use Rattle.totals.proofs.totals_of.Goals as goal

pub loop-k-init : goal.loop-k-init
loop-k-init c = (
  cc (none_yet c.args.out.now),
  record { rows = omega arith; n320 = omega arith; n300 = omega arith; n200 = omega arith; n100 = omega arith; n50 = omega arith; misses = omega arith },
)

pub with_next-totals-requires : goal.with_next-totals-requires
with_next-totals-requires c =
    let l = c.loop-k in
    record { k_bound = (omega arith, omega arith); within = (l.invariant.1, l.invariant.0) }

pub loop-k-preserved : goal.loop-k-preserved
loop-k-preserved c = (c.with_next-totals.ensures.1, c.with_next-totals.ensures.0)

pub returns : goal.returns
returns c =
    let l = c.loop-k in
    let e : l.k ≡ c.args.n = omega arith in
    rw e at l.invariant.0
