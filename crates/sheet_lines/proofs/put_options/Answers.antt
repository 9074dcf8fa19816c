-- `sheet_lines::put_options` meets its contract. Assumes nothing.
use Rattle.accuracy_text.proofs.Pieces.{words}
use Rattle.sheet_lines.specs.Lines.{option_words}
use Rattle.sheet_lines.proofs.put_options.Goals as goal

pub returns-clause-gained : goal.returns-clause-gained
unfolding option_words
returns-clause-gained c =
    let accuracy = rw c.is_given-given.ensures at c.put_accuracy.ensures.gained in
    words _ _ (words _ _ (words _ _ (words _ _ c.put_flags.ensures.gained c.put_high.ensures.gained) c.put_low.ensures.gained) c.put_reached.ensures.gained) accuracy
