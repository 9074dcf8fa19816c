-- The loop of `sheet_reader::work_rows`: i rows are worked, and the reader stands behind them.
use Rattle.std.proofs.Common.{◌≡◌, ◌+◌, ◌*◌, take}
use Rattle.sheets_laws.specs.Sheets.{rows_written}
use Rattle.sheet_reader.proofs.work_rows.Given as goal

abbrev pub invariant-loop-i : goal.invariant-loop-i
invariant-loop-i l =
    (l.reader.sheet ≡ l.fn.reader.sheet) × (l.reader.at ≡ l.fn.reader.at + 48 * l.i)
    × (l.out ≡ rows_written l.fn.reader.sheet.now l.header.scoring (take l.header.count l.header.charts.now) l.fn.reader.at l.i l.fn.out)
