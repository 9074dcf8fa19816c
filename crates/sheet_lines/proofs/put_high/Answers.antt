-- `sheet_lines::put_high` meets its contract. Assumes nothing.
use Rattle.accuracy_text.proofs.Pieces.{words}
use Rattle.typed_line.specs.Keywords.{n320, n300, n200}
use Rattle.sheet_lines.specs.Lines.{high_words}
use Rattle.sheet_lines.proofs.put_high.Goals as goal

pub returns-clause-gained : goal.returns-clause-gained
unfolding high_words n320 n300 n200
returns-clause-gained c =
    let first = rw c.is_given.ensures at c.put_option.ensures.gained in
    let second = rw c.is_given-2.ensures at c.put_option-2.ensures.gained in
    let third = rw c.is_given-3.ensures at c.put_option-3.ensures.gained in
    words _ _ (words _ _ first second) third
