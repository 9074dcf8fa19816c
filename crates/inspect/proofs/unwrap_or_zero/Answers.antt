-- `inspect::unwrap_or_zero` is the definition, field by field. Assumes nothing.
use Rattle.inspect.specs.Presence.{unwrap_or_zero}
use Rattle.inspect.proofs.unwrap_or_zero.Goals as goal

pub returns : goal.returns
unfolding unwrap_or_zero
returns c = rw (c.pick.ensures, c.pick-2.ensures, c.pick-3.ensures, c.pick-4.ensures, c.pick-5.ensures)
