-- `sheet_lines::put_chart` meets its contract. Assumes nothing.
use mathlib.Core.List.{[], ◌∷◌, ◌++◌}
use Rattle.text.specs.Text.{decimal_text}
use Rattle.text.proofs.Written.{followed}
use Rattle.typed_line.specs.Keywords.{chart}
use Rattle.accuracy_text.proofs.Pieces.{words}
use Rattle.sheet_lines.specs.Lines.{chart_text}
use Rattle.sheet_lines.proofs.put_chart.Goals as goal

pub returns-clause-gained : goal.returns-clause-gained
unfolding chart_text chart
returns-clause-gained c =
    let x = c.args.chart in
    let a = decimal_text x.n_objects ∷ [] in
    let b = decimal_text x.n_hold_notes ∷ [] in
    followed (followed c.put_bytes.ensures (words a b c.put_value.ensures.gained c.put_value-2.ensures.gained)) c.put_byte.ensures
