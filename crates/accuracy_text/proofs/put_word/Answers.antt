-- `accuracy_text::put_word` meets its contract. Assumes nothing.
use Rattle.text.proofs.Written.{followed, restated}
use Rattle.accuracy_text.proofs.Pieces.{one}
use Rattle.accuracy_text.proofs.put_word.Goals as goal

pub returns-clause-gained : goal.returns-clause-gained
returns-clause-gained c = restated (followed c.put_byte.ensures c.put_bytes.ensures) (one c.args.word.now)
