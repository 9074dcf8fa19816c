-- `total_text::put_sums` meets its contract. Assumes nothing.
use native.Mathlib.Omega.{arith}
use Rattle.text.proofs.Written.{nothing, next_piece}
use Rattle.total_text.specs.TotalText.{sum_text}
use Rattle.total_text.proofs.put_sums.Goals as goal

pub loop-n-init : goal.loop-n-init
loop-n-init c = (omega arith, nothing c.args.text.now (omega arith))

pub loop-n-preserved : goal.loop-n-preserved
unfolding sum_text
loop-n-preserved c =
    let l = c.loop-n in
    (omega arith, next_piece (sum_text c.args.seven.now) l.n-index l.invariant.1 c.put_sum.ensures.gained)
