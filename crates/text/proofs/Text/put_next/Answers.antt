-- `text::Text::put_next` meets its contract. Assumes nothing.
use Rattle.text.proofs.Written.{followed}
use Rattle.text.proofs.Text.put_next.Goals as goal

pub returns-clause-gained : goal.returns-clause-gained
returns-clause-gained c = followed c.put_byte.ensures c.put_decimal.ensures.gained
