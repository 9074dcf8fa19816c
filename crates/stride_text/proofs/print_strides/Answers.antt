-- `print_strides` meets its contract: its text began in the lent buffer. Assumes nothing.
use Rattle.text.proofs.Written.{front, beyond}
use Rattle.stride_text.proofs.print_strides.Goals as goal

pub returns-clause-printed : goal.returns-clause-printed
returns-clause-printed c = let text = c.new-text.ensures in front c.put_strides.ensures text.empty text.bytes c.len.ensures

pub returns-clause-beyond : goal.returns-clause-beyond
returns-clause-beyond c = let text = c.new-text.ensures in beyond c.put_strides.ensures text.empty text.bytes c.len.ensures
