-- The page 'A typed sheet' of docs/RULES.md, 'The way back': "The text of a sheet: what it writes is read back to the same bytes."
use Rattle.std.specs.Prelude.{List, ◌++◌, false, ◌≡◌, ℕ, ◌≤◌, ◌<◌, length, drop, Ok}
use Rattle.little_endian.specs.Bytes.{byte}
use Rattle.row_checks.specs.RowChecks.{unknown_row, fields_left}
use Rattle.sheets_laws.specs.Sheets.{query_count, rows_at, sheet_stop, row_of}
use Rattle.typed_sheet.specs.Typed.{typed_sheet}
use Rattle.typed_text.specs.SheetText.{text_of}

-- bytes that no sheet check stops, given room for the answers, and no row of which check 8 or 9 stops
pub record HasText (s : List ℕ) : Type 0 where
  pub bytes : (i : ℕ) → byte s i < 256
  pub accepted : sheet_stop s 36864 ≡ 0
  pub known : (i : ℕ) → i < query_count s → unknown_row (row_of s (rows_at s) i) ≡ false
  pub clean : (i : ℕ) → i < query_count s → fields_left (row_of s (rows_at s) i) ≡ false

-- reading the text of s writes the bytes of s to the front of any output that is long enough, and leaves the rest as it was
pub record ReadBack (s : List ℕ) : Type 0 where
  pub same : (out : List ℕ) → length s ≤ length out → typed_sheet (text_of s) out ≡ record { answer = Ok (length s); bytes = s ++ drop (length s) out }
