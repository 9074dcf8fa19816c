-- `sheet_lines::put_weights` meets its contract. Assumes nothing.
use mathlib.Core.List.{[], ◌∷◌, ◌++◌}
use Rattle.text.specs.Text.{decimal_text}
use Rattle.text.proofs.Written.{followed}
use Rattle.typed_line.specs.Keywords.{weights}
use Rattle.accuracy_text.proofs.Pieces.{words}
use Rattle.sheet_lines.specs.Lines.{weights_text}
use Rattle.sheet_lines.proofs.put_weights.Goals as goal

pub returns-clause-gained : goal.returns-clause-gained
unfolding weights_text weights
returns-clause-gained c =
    let x = c.args.w in
    let a = decimal_text x.n320 ∷ [] in
    let b = decimal_text x.n300 ∷ [] in
    let d = decimal_text x.n200 ∷ [] in
    let e = decimal_text x.n100 ∷ [] in
    let f = decimal_text x.n50 ∷ [] in
    followed (followed c.put_bytes.ensures (words (a ++ b ++ d ++ e) f (words (a ++ b ++ d) e (words (a ++ b) d (words a b c.put_value.ensures.gained c.put_value-2.ensures.gained) c.put_value-3.ensures.gained) c.put_value-4.ensures.gained) c.put_value-5.ensures.gained)) c.put_byte.ensures
