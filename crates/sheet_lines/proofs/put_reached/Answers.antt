-- `sheet_lines::put_reached` meets its contract. Assumes nothing.
use Rattle.accuracy_text.proofs.Pieces.{words}
use Rattle.typed_line.specs.Keywords.{passed, holds}
use Rattle.sheet_lines.specs.Lines.{reached_words}
use Rattle.sheet_lines.proofs.put_reached.Goals as goal

pub returns-clause-gained : goal.returns-clause-gained
unfolding reached_words passed holds
returns-clause-gained c =
    words _ _ (rw c.is_given-given.ensures at c.put_option.ensures.gained) c.put_option-2.ensures.gained
