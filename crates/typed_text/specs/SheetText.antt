-- The page 'A typed sheet' of docs/RULES.md, 'The way back': "a sheet that 1, 2, 3, 4 or 18 refuses has no text: refused by that number. A
-- row that 8 or 9 stops has none either: refused by the row's index and 8 or 9 (the first such row ..). Too short an output is 5, after
-- these. Whatever is refused leaves the output unchanged. Else the answer is the text's length, the text stands in front, and what stood
-- behind it stays."
use Rattle.std.specs.Prelude.{List, ◌++◌, cond, ◌≡◌, ℕ, zero, suc, ◌+◌, ◌-◌, ◌*◌, ◌<◌, eqb, ltb, length, drop, Result, Ok, Err}
use Rattle.io.specs.Counts.{IsPrefixLen}
use Rattle.lists.specs.Lists.{joined}
use Rattle.records.specs.Records.{chart_at, weights_at}
use Rattle.records.specs.declared.Row.{Row}
use Rattle.refusals.specs.Refusal.{number_of}
use Rattle.row_checks.specs.RowChecks.{unknown_row, fields_left}
use Rattle.sheets_laws.specs.Sheets.{chart_count, scoring_at, own_count, query_count, rows_at, sheet_stop, row_of}
use Rattle.sheet_lines.specs.Lines.{chart_text, weights_text, play_text}
use Rattle.typed_text.specs.declared.Places.{Places}
use Rattle.typed_text.specs.declared.TextError.{TextError}
use Rattle.typed_text.specs.declared.TextError.TheVariants as Error

-- ---- the checks
-- Those of the sheet but for 5, which asks an output for room for answers: 36,864 bytes have room for those of 1,024 queries.
abbrev pub stop_of : List ℕ → ℕ
stop_of s = sheet_stop s 36864

-- 8 or 9, or 0
unfoldable pub row_fault : Row → ℕ
row_fault r = cond (unknown_row r) 8 (cond (fields_left r) 9 0)

unfoldable pub fault_at : List ℕ → ℕ → ℕ
unfolding row_fault
fault_at s i = row_fault (row_of s (rows_at s) i)

-- the first of n numbers from i on that is not 0; or, where there is none, i + n
unfoldable pub first_from : (ℕ → ℕ) → ℕ → ℕ → ℕ
first_from f i zero = i
first_from f i (suc n) = cond (eqb (f i) 0) (first_from f (i + 1) n) i

-- the first row that 8 or 9 stops, or the number of rows
unfoldable pub first_stopped : List ℕ → ℕ
unfolding fault_at first_from
first_stopped s = first_from (fault_at s) 0 (query_count s)

-- ---- the text
-- "Lines in this order": the charts, own weights if there are any, the queries
unfoldable pub line_at : List ℕ → ℕ → List ℕ
line_at s j =
    cond (ltb j (chart_count s)) (chart_text (chart_at s (4 + 8 * j)))
    (cond (ltb j (chart_count s + own_count s)) (weights_text (weights_at s (scoring_at s + 4)))
    (play_text (row_of s (rows_at s) (j - (chart_count s + own_count s)))))

abbrev pub line_count : List ℕ → ℕ
line_count s = chart_count s + own_count s + query_count s

unfoldable pub text_of : List ℕ → List ℕ
unfolding line_at
text_of s = joined (line_at s) (line_count s)

-- ---- what is answered, and all bytes of the output
pub data TextAnswer : Type 0 where
  -- the text's length
  text : ℕ → TextAnswer
  -- the number of the check that stops the sheet
  refused : ℕ → TextAnswer
  -- the index of the row that 8 or 9 stops, and which of them does
  row : ℕ → ℕ → TextAnswer
  -- too short an output
  short : TextAnswer

pub record Outcome : Type 0 where
  pub answer : TextAnswer
  pub bytes : List ℕ

unfoldable pub sheet_text : List ℕ → List ℕ → Outcome
unfolding first_stopped text_of
sheet_text s out =
    cond (ltb 0 (stop_of s)) (record { answer = refused (stop_of s); bytes = out })
    (cond (ltb (first_stopped s) (query_count s)) (record { answer = row (first_stopped s) (fault_at s (first_stopped s)); bytes = out })
    (cond (ltb (length out) (length (text_of s))) (record { answer = short; bytes = out })
    (record { answer = text (length (text_of s)); bytes = text_of s ++ drop (length (text_of s)) out })))

-- document 01, Language forms: "For every answer that is an enum, a definition gives this paper's number and values for each case of the enum."
abbrev pub error_of : TextError → TextAnswer
error_of (Error.Sheet r) = refused (number_of r)
error_of (Error.Row i r) = row i (number_of r)
error_of Error.Short = short

abbrev pub told_of : Result ℕ TextError → TextAnswer
told_of (Ok n) = text n
told_of (Err e) = error_of e

-- an answer and an output are those of an outcome
pub record Says (o : Outcome) (r : Result ℕ TextError) (out : List ℕ) : Type 0 where
  pub answers : told_of r ≡ o.answer
  pub holds : out ≡ o.bytes

-- a text's length is at most the output's
abbrev pub Counted : Result ℕ TextError → List ℕ → Type 0
Counted (Ok n) out = IsPrefixLen n out
Counted (Err e) out = Unit {0}

-- the first row that 8 or 9 stops is told; or none is, where there is none
abbrev pub RowsTold : List ℕ → Result (Unit {0}) TextError → Type 0
RowsTold s (Ok x) = first_stopped s ≡ query_count s
RowsTold s (Err e) = (first_stopped s < query_count s) × (error_of e ≡ row (first_stopped s) (fault_at s (first_stopped s)))

-- ---- the places of a sheet, as the code holds them: how many charts there are, how many own weights and where they start, where the queries
-- start and how many there are
abbrev pub places_of : List ℕ → Places
places_of s = record { charts = chart_count s; own = own_count s; weights = scoring_at s + 4; rows = rows_at s; queries = query_count s }

-- the places of a sheet that no check stops
pub record Placed (s : List ℕ) (p : Places) : Type 0 where
  pub accepted : stop_of s ≡ 0
  pub places : p ≡ places_of s
