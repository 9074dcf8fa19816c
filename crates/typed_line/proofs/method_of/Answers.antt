-- `typed_line::method_of` meets its contract. Assumes nothing.
use Rattle.words.specs.Words.{words, words_from, word_size}
use Rattle.typed_line.specs.Keywords.{method_of, ignore, fast, closest, nearest}
use Rattle.typed_line.proofs.method_of.Goals as goal

pub returns : goal.returns
unfolding method_of words words_from word_size ignore fast closest nearest
returns c = c.place_in.ensures
