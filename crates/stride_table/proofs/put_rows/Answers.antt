-- `put_rows`: the rows before r stand in the buffer, and what was past them.
use mathlib.Core.Path.{◌≡◌, ◌∙◌}
use mathlib.Core.List.{◌++◌}
use Prim.Native.Nat.{◌+◌, ◌*◌}
use native.Mathlib.Omega.{arith}
use lib.ListN.{drop}
use Rattle.lists.specs.Lists.{joined}
use Rattle.lists.proofs.Joined.{next_piece}
use Rattle.score_state.specs.Points.{weights_of}
use Rattle.stride_rows.specs.Strides.{row_rule}
use Rattle.stride_table.specs.StrideTable.{table_of}
use Rattle.stride_table.proofs.Table.{row-long}
use Rattle.stride_table.proofs.put_rows.Goals as goal

pub loop-r-preserved : goal.loop-r-preserved
loop-r-preserved c =
    let x = c.args in
    let l = c.loop-r in
    let f = row_rule (weights_of x.first) (weights_of x.second) in
    let step : c.put_row.new.out ≡ joined f (l.r + 1) ++ drop (5 * (l.r + 1)) x.out.now =
    c.put_row.ensures ∙ rw (c.row_of.ensures, l.invariant.1) (next_piece 5 f (row-long x.first x.second) x.out.now l.r) in
    (omega arith, step)

pub returns : goal.returns
unfolding table_of
returns c =
    let l = c.loop-r in
    let e : l.r ≡ 64 = omega arith in
    rw e at l.invariant.1
