-- `sheet_lines::put_low` meets its contract. Assumes nothing.
use Rattle.accuracy_text.proofs.Pieces.{words}
use Rattle.typed_line.specs.Keywords.{n100, n50, misses}
use Rattle.sheet_lines.specs.Lines.{low_words}
use Rattle.sheet_lines.proofs.put_low.Goals as goal

pub returns-clause-gained : goal.returns-clause-gained
unfolding low_words n100 n50 misses
returns-clause-gained c =
    let first = rw c.is_given.ensures at c.put_option.ensures.gained in
    let second = rw c.is_given-2.ensures at c.put_option-2.ensures.gained in
    let third = rw c.is_given-3.ensures at c.put_option-3.ensures.gained in
    words _ _ (words _ _ first second) third
