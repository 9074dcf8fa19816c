-- `sheet_lines::put_play` meets its contract. Assumes nothing.
use mathlib.Core.List.{[], ◌∷◌, ◌++◌}
use Rattle.text.specs.Text.{decimal_text}
use Rattle.text.proofs.Written.{followed}
use Rattle.typed_line.specs.Keywords.{play}
use Rattle.accuracy_text.proofs.Pieces.{words}
use Rattle.sheet_lines.specs.Lines.{method_word, option_words, play_text}
use Rattle.sheet_lines.proofs.put_play.Goals as goal

pub returns-clause-gained : goal.returns-clause-gained
unfolding play_text play
returns-clause-gained c =
    let x = c.args.row in
    let a = decimal_text x.chart ∷ [] in
    let b = method_word x.method ∷ [] in
    let d = option_words x in
    followed (followed c.put_bytes.ensures (words (a ++ b) d (words a b c.put_value.ensures.gained c.put_method.ensures.gained) c.put_options.ensures.gained)) c.put_byte.ensures
