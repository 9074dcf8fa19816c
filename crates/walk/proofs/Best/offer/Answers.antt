-- `offer` is the definition's, by its two outcomes.
use Rattle.nearest_laws.proofs.Steps.{offered}
use Rattle.walk.specs.Code.{view, try_of}
use Rattle.walk.proofs.Best.offer.Goals as goal

pub returns-then-better : goal.returns-then-better
returns-then-better c T p e =
    let x = c.args in
    let b = c.better-better in
    rw c.if-better.true at (offered T x.dist.0 (try_of x.spread p) (view x.self) b.result e b.ensures)

pub returns-else-better : goal.returns-else-better
returns-else-better c T p e =
    let x = c.args in
    let b = c.better-better in
    rw c.if-better.false at (offered T x.dist.0 (try_of x.spread p) (view x.self) b.result e b.ensures)
