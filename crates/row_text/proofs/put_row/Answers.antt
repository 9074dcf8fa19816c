-- `row_text::put_row` meets its contract. Assumes nothing.
use Rattle.text.proofs.Written.{followed}
use Rattle.row_text.specs.RowText.{row_text}
use Rattle.row_text.proofs.put_row.Goals as goal

pub returns-clause-gained : goal.returns-clause-gained
unfolding row_text
returns-clause-gained c = followed (followed (followed c.put_decimal.ensures.gained c.put_fields.ensures.gained) c.put_left.ensures.gained) c.put_byte.ensures
