-- `direct::numbers_of` meets its contract. Assumes nothing.
use mathlib.Core.Path.{sym, ap}
use Rattle.direct.specs.Direct.{numbers_by}
use Rattle.direct.proofs.numbers_of.Goals as goal

pub returns-in-Own : goal.returns-in-Own
returns-in-Own c = sym (ap numbers_by c.in-Own.is)
