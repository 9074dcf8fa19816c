-- Document 01, Program `sheet`: its example, computed by the definitions. `table::print_sheet` prints what `printed_of` says.
-- Assumes nothing.
use mathlib.Core.Path.{◌≡◌, refl}
use lib.Ieee.{lt, le, mul, sub, div, neg, of_int, of_bits}
use Rattle.rounding.specs.Round.{round_even}
use Rattle.score_state.specs.Points.{hits, points}
use Rattle.units.specs.Gap.{gap}
use Rattle.score_state.specs.Given.{or, missing, given_hits, given_points, fill}
use Rattle.inspect.specs.Inspect.{shortened, total_hits, capped_misses, misses, remain}
use Rattle.inspect.specs.Target.{target}
use Rattle.inspect.specs.Checks.{chart_over, unknown_code, over_cap, count_over, acc_outside, stop_of}
use Rattle.nearest_laws.specs.Walk as Walk
use Rattle.nearest_laws.specs.Walk.{gcd_in, gcd, stride, better, settle, lowest, trial, pair, rows, settings, last_of, init_of, middles, middles_of, candidates, walk}
use Rattle.nearest_laws.specs.Nearest.{fold, all_given, stops, found, nearest}
use Rattle.generate_laws.specs.Generate.{found_of, nearest_of, by_method, scored_by}
use Rattle.little_endian.specs.Bytes.{bytes4}
use Rattle.records.specs.Records.{chart_at, row_at}
use Rattle.charts.specs.Charts.{charts_at}
use Rattle.row_checks.specs.RowChecks.{left_over, holds_left, fields_left, unknown_row, own_unfit, row_stop}
use Rattle.rows.specs.Rows.{query_of, found_answer, row_answer}
use Rattle.answers.specs.Answers.{field_bytes, answer_bytes}
use Rattle.sheets_laws.specs.Sheets.{scoring_from, charts_stop, scoring_stop, queries_stop, sheet_stop, charts_of, row_of, rows_written, sheet_of}
use Rattle.totals.specs.Totals.{totals_of}
use Rattle.text.specs.Text.{decimal_up_to, decimal_text, signed_text}
use Rattle.total_text.specs.TotalText.{total_word, sum_text, total_text}
use Rattle.row_text.specs.RowText.{field_text, fields_text, left_text, row_text}
use Rattle.table.specs.Table.{header_text, table_text, answer_text, room, printed_of}
use Rattle.table_example.specs.Example.{sheet, shown}

pub example : printed_of sheet ≡ shown
unfolding sheet shown printed_of answer_text table_text header_text row_text fields_text field_text left_text room totals_of total_word sum_text total_text decimal_text decimal_up_to signed_text scoring_from charts_stop scoring_stop queries_stop sheet_stop charts_of row_of rows_written sheet_of field_bytes answer_bytes bytes4 chart_at row_at charts_at left_over holds_left fields_left unknown_row own_unfit row_stop query_of found_answer row_answer scored_by by_method found_of nearest_of lt le mul sub div neg of_int of_bits round_even hits points gap or missing given_hits given_points fill shortened total_hits capped_misses misses remain target chart_over unknown_code over_cap count_over acc_outside stop_of gcd_in gcd stride Walk.start Walk.over better Walk.offer settle lowest trial pair rows settings last_of init_of middles middles_of candidates walk fold all_given stops found nearest
example = refl
