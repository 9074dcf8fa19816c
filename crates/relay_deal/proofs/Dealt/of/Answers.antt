-- `Dealt::of`: the five counts in their order, each from the room that the one before it left.
use Rattle.relay_laws.specs.Pool.{dealt, undealt}
use Rattle.relay_deal.proofs.Dealt.of.Goals as goal

pub returns : goal.returns
unfolding dealt undealt
returns c =
    let a = c.of-n320.ensures in
    let b = c.of-n300.ensures in
    let d = c.of-n200.ensures in
    let e = c.of-n100.ensures in
    let f = c.of-n50.ensures in (
      rw (a.0, b.0, d.0, e.0, f.0, e.2, d.2, b.2, a.2),
      rw (a.1, b.1, d.1, e.1, f.1, e.2, d.2, b.2, a.2),
    )
