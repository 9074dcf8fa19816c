-- `inspect::remain` meets its contract. Assumes nothing.
use native.Mathlib.Omega.{arith}
use Rattle.inspect.specs.Inspect.{remain}
use Rattle.inspect.proofs.remain.Goals as goal

pub returns : goal.returns
unfolding remain
returns c = (rw (c.sub.ensures, c.total_hits.ensures.0, c.misses.ensures.0), omega arith)
