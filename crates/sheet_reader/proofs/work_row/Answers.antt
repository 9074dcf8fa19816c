-- The row is read of its own bytes, which are those of the sheet where the reader stands, and its chart is looked up in the lent list.
use Rattle.std.proofs.Common.{◌≡◌, ◌≤◌, ℕ, List, length, take, ap, ◌∙◌, arith}
use Rattle.lists.specs.Lists.{put}
use Rattle.records.specs.Records.{row_at}
use Rattle.records.specs.declared.Row.{Row}
use Rattle.score_state.specs.Answer.{Answer}
use Rattle.answers.specs.Answers.{answer_bytes}
use Rattle.rows.specs.Rows.{row_answer}
use Rattle.rows.proofs.Stops.{looked_up}
use Rattle.sheet_reader.proofs.Pieces.{length_part, row_in}
use Rattle.sheet_reader.proofs.work_row.Goals as goal

pub read_row-row-requires : goal.read_row-row-requires
read_row-row-requires c =
    let l : length c.read.result.now ≡ 48 = ap length c.read.ensures.0 ∙ length_part c.args.reader.now.sheet.now c.args.reader.now.at 48 c.requires.0 in
    omega arith

pub returns : goal.returns
returns c =
    let a = c.args in
    let row = c.read_row-row.result in
    let few : a.header.count ≤ length a.header.charts.now = let h = a.header.few in let l = a.header.long in omega (arith, h, l) in
    let e : row ≡ row_at a.reader.now.sheet.now a.reader.now.at = c.read_row-row.ensures ∙ ap (λ (l : List ℕ). row_at l 0) c.read.ensures.0 ∙ row_in a.reader.now.sheet.now a.reader.now.at 48 (omega arith) in (
      c.read.ensures.1,
      c.read.ensures.2,
      c.put_row.ensures
          ∙ ap (λ (x : Answer (List ℕ)). put a.out.now a.at (answer_bytes x))
          (rw (c.chart_at-chart.ensures, c.chart_index-index.ensures.0) (looked_up a.header.scoring row a.header.charts.now a.header.count few) ∙ ap (λ (x : Row). row_answer a.header.scoring x (take a.header.count a.header.charts.now)) e),
    )
