-- `text::Text::put_refused` meets its contract. Assumes nothing.
use Rattle.text.specs.Text.{refused_text, refused_word}
use Rattle.text.proofs.Written.{followed}
use Rattle.text.proofs.Text.put_refused.Goals as goal

pub returns : goal.returns
unfolding refused_text refused_word
returns c = followed (followed c.put_bytes.ensures c.put_decimal.ensures.gained) c.put_byte.ensures
