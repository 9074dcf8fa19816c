-- `fast::Partial::upgrades` meets its contract. Assumes nothing.
use mathlib.Core.Path.{ap}
use Prim.Native.Nat.{ℕ, ◌+◌}
use Rattle.inspect.specs.Inspect.{inspect_of}
use Rattle.units.proofs.Order.{min_of}
use Rattle.fast.proofs.Steps.{or_is, upgrades-is}
use Rattle.fast.proofs.Partial.upgrades.Goals as goal

pub returns : goal.returns
returns c =
    let x = c.args in
    let n = c.of-given.ensures in
    let e =
    upgrades-is (inspect_of x.q) c.perfect_weight-n320_increase.result x.delta.0 x.self c.upgrade-n320.result c.upgrade-n300.result c.upgrade-n200.result c.upgrade-n100.result
    (rw n.n320 at c.upgrade-n320.ensures) (rw n.n300 at c.upgrade-n300.ensures) (rw n.n200 at c.upgrade-n200.ensures) (rw n.n100 at c.upgrade-n100.ensures)
    c.add-room.ensures (or_is c.of-given.result.n50 c.add-room.result.0 n.n50 c.unwrap_or.ensures) (min_of _ _ _ c.min-n50.ensures) c.sub.ensures in
    rw (c.of.ensures, ← c.perfect_weight-n320_increase.ensures.0) (e.0, ap (λ (k : ℕ). k + x.self.counts.misses) e.1)
