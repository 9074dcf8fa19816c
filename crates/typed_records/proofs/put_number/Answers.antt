-- `typed_records::put_number` meets its contract. Assumes nothing.
use mathlib.Core.Path.{◌∙◌}
use Rattle.lists.specs.Lists.{put}
use Rattle.little_endian.specs.Bytes.{bytes4}
use Rattle.text.proofs.Written.{restated}
use Rattle.typed_records.proofs.Lengths.{low_four}
use Rattle.typed_records.proofs.put_number.Goals as goal

pub returns-clause-gained : goal.returns-clause-gained
unfolding put bytes4
returns-clause-gained c = restated c.put_bytes.ensures (c.put_u32.ensures ∙ low_four c.args.n)
