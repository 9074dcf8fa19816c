-- `little_endian::put_u32` meets its contract. Assumes nothing.
use mathlib.Core.Path.{◌∙◌}
use native.Mathlib.Omega.{arith}
use Rattle.lists.proofs.Put.{part_put}
use Rattle.little_endian.specs.Bytes.{bytes4}
use Rattle.little_endian.proofs.put_u32.Goals as goal

pub returns : goal.returns
unfolding bytes4
returns c = part_put c.args.at _ c.args.out.now _ _ (c.copy_from_slice.ensures.after ∙ c.to_le_bytes.ensures) (omega arith)
