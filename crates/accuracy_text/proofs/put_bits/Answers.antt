-- `accuracy_text::put_bits` meets its contract. Assumes nothing.
use Rattle.typed_line.specs.Keywords.{accbits}
use Rattle.accuracy_text.specs.AccuracyText.{hex_text, words_by}
use Rattle.accuracy_text.proofs.Pieces.{words}
use Rattle.accuracy_text.proofs.put_bits.Goals as goal

pub returns-clause-gained : goal.returns-clause-gained
unfolding words_by hex_text accbits
returns-clause-gained c =
    let digits = rw c.digits_of.ensures at c.put_word-2.ensures.gained in
    words _ _ c.put_word.ensures.gained digits
