-- `closest::next_of` is a step of `fill`. Assumes nothing.
use Rattle.closest_laws.proofs.Fills.{next_missing}
use Rattle.closest.proofs.next_of.Goals as goal

pub returns-in-None : goal.returns-in-None
returns-in-None c = λ gs. rw c.in-None.is (next_missing c.args.pair.0.0 c.args.pair.1.0 gs)
