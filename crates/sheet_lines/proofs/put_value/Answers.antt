-- `sheet_lines::put_value` meets its contract. Assumes nothing.
use Rattle.text.specs.Text.{decimal_text}
use Rattle.text.proofs.Written.{restated}
use Rattle.accuracy_text.proofs.Pieces.{one}
use Rattle.sheet_lines.proofs.put_value.Goals as goal

pub returns-clause-gained : goal.returns-clause-gained
returns-clause-gained c = restated c.put_next.ensures.gained (one (decimal_text c.args.n))
