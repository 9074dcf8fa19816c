-- `row_text::put_field` meets its contract. Assumes nothing.
use mathlib.Core.Path.{ap}
use mathlib.Core.List.{◌∷◌}
use Rattle.text.specs.Text.{decimal_text}
use Rattle.text.proofs.Written.{restated}
use Rattle.row_text.specs.RowText.{field_text}
use Rattle.row_text.proofs.put_field.Goals as goal

pub returns-clause-gained : goal.returns-clause-gained
unfolding field_text
returns-clause-gained c = restated c.put_next.ensures.gained (ap (λ n. 32 ∷ decimal_text n) c.u32_at.ensures)
