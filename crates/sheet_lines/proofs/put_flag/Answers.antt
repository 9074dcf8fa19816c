-- `sheet_lines::put_flag` meets its contract. Assumes nothing.
use native.Mathlib.Omega.{arith}
use Rattle.text.proofs.Written.{nothing}
use Rattle.accuracy_text.specs.AccuracyText.{spaced}
use Rattle.sheet_lines.specs.Lines.{flagged}
use Rattle.sheet_lines.proofs.put_flag.Goals as goal

pub returns-then-given-clause-gained : goal.returns-then-given-clause-gained
unfolding flagged
returns-then-given-clause-gained c = rw c.if-given.true c.put_word.ensures.gained

pub returns-else-given-clause-gained : goal.returns-else-given-clause-gained
unfolding flagged spaced
returns-else-given-clause-gained c = rw c.if-given.false (nothing c.args.text.now (omega arith))
