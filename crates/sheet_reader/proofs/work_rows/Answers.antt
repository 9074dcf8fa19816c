-- Before the first row nothing is written; each turn works the row where the reader stands, and adds its answer.
use Rattle.std.proofs.Common.{take, refl, ◌∙◌, arith}
use Rattle.records.specs.Records.{row_at}
use Rattle.rows.specs.Rows.{row_answer}
use Rattle.sheets_laws.proofs.Written.{written_none, Written-step}
use Rattle.sheet_reader.proofs.work_rows.Goals as goal

pub loop-i-init : goal.loop-i-init
loop-i-init c = let a = c.args in (refl, omega arith, written_none a.reader.now.sheet.now a.header.scoring (take a.header.count a.header.charts.now) a.reader.now.at a.out.now)

pub loop-i-preserved : goal.loop-i-preserved
loop-i-preserved c =
    let a = c.args in
    let l = c.loop-i in
    let row = row_at l.reader.sheet.now l.reader.at in
    let charts = take a.header.count a.header.charts.now in (
      c.work_row.ensures.0 ∙ l.invariant.0,
      (let e = c.work_row.ensures.1 in let h = l.invariant.1 in omega (arith, e, h)),
      Written-step a.reader.now.sheet.now a.header.scoring charts a.reader.now.at a.out.now l.i row (row_answer a.header.scoring row charts) l.out _ l.invariant.2 (λ k. row_at (l.invariant.0 k).now (l.invariant.1 k)) refl c.work_row.ensures.2,
    )
