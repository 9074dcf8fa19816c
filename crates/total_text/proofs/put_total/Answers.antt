-- `total_text::put_total` meets its contract. Assumes nothing.
use Rattle.text.proofs.Written.{followed}
use Rattle.total_text.specs.TotalText.{total_word, total_text}
use Rattle.total_text.proofs.put_total.Goals as goal

pub returns-clause-gained : goal.returns-clause-gained
unfolding total_text total_word
returns-clause-gained c = followed (followed c.put_bytes.ensures c.put_sums.ensures.gained) c.put_byte.ensures
