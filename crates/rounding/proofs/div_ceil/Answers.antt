-- `rounding::div_ceil` meets its contract. Assumes nothing.
use mathlib.Core.Path.{refl}
use Rattle.rounding.specs.Quotient.{rounded_up}
use Rattle.rounding.proofs.Quotient.{rounded_up-le}
use Rattle.rounding.proofs.div_ceil.Goals as goal

pub returns : goal.returns
unfolding rounded_up
returns c = (refl, rounded_up-le c.args.x c.args.y c.requires.1)
