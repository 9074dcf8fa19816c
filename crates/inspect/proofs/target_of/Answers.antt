-- `inspect::target_of` meets its contract. Assumes nothing.
use native.Mathlib.Omega.{arith}
use Rattle.inspect.specs.Target.{target}
use Rattle.inspect.proofs.Checked.{pooled_within}
use Rattle.inspect.proofs.target_of.Goals as goal

pub mul-requires : goal.mul-requires
mul-requires c = omega (arith, pooled_within c.args.w c.args.total.0 c.requires.0 c.requires.1)

pub rounded_product-requires : goal.rounded_product-requires
rounded_product-requires c = omega (arith, pooled_within c.args.w c.args.total.0 c.requires.0 c.requires.1)

pub returns : goal.returns
unfolding target
returns c = rw (← c.mul.ensures) c.rounded_product.ensures
