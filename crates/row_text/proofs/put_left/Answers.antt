-- `row_text::put_left` meets its contract. Assumes nothing.
use mathlib.Core.Path.{ap}
use mathlib.Core.List.{◌∷◌}
use Rattle.text.specs.Text.{signed_text}
use Rattle.text.proofs.Written.{followed, restated}
use Rattle.row_text.specs.RowText.{left_text}
use Rattle.row_text.proofs.put_left.Goals as goal

pub returns-clause-gained : goal.returns-clause-gained
unfolding left_text
returns-clause-gained c = restated (followed c.put_byte.ensures c.put_signed.ensures.gained) (ap (λ n. 32 ∷ signed_text n) c.u32_at.ensures)
