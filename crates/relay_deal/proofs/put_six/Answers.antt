-- `put_six`: six numbers copied over a part are one put.
use native.Mathlib.Omega.{arith}
use Rattle.lists.proofs.Put.{part_put}
use Rattle.relay_deal.proofs.put_six.Goals as goal

pub returns : goal.returns
returns c = part_put c.args.at _ c.args.out.now _ _ c.copy_from_slice.ensures.after (omega arith)
