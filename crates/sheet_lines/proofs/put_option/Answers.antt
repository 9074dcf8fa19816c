-- `sheet_lines::put_option` meets its contract. Assumes nothing.
use native.Mathlib.Omega.{arith}
use Rattle.text.proofs.Written.{nothing}
use Rattle.accuracy_text.specs.AccuracyText.{spaced}
use Rattle.accuracy_text.proofs.Pieces.{words}
use Rattle.sheet_lines.specs.Lines.{numbered}
use Rattle.sheet_lines.proofs.put_option.Goals as goal

pub returns-then-given-clause-gained : goal.returns-then-given-clause-gained
unfolding numbered
returns-then-given-clause-gained c = rw c.if-given.true (words _ _ c.put_word.ensures.gained c.put_value.ensures.gained)

pub returns-else-given-clause-gained : goal.returns-else-given-clause-gained
unfolding numbered spaced
returns-else-given-clause-gained c = rw c.if-given.false (nothing c.args.text.now (omega arith))
