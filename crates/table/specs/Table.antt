-- Document 01, Program `sheet`: it "prints a header and one row per query: index, then the answer's fields. A refused sheet prints
-- only `refused N`." And document 02, L1: "The header and each printed row end with left, a minus sign before a negative one."; L10: "After
-- the rows, `sheet` prints `total`", and "A refused sheet has no such line." The bytes that it prints, from the bytes of the sheet.
use Rattle.std.specs.Prelude.{List, [], ◌∷◌, ◌++◌, ℕ, replicate}
use Rattle.lists.specs.Lists.{joined}
use Rattle.score_state.specs.Answer.{Answer, worked, refused}
use Rattle.total_text.specs.TotalText.{total_text}
use Rattle.text.specs.Text.{refused_text}
use Rattle.row_text.specs.RowText.{row_text}
use Rattle.sheets_laws.specs.Sheets.{SheetNumbers, WorkedSheet, sheet_of}

-- "query status n320 n300 n200 n100 n50 misses tried left", a line of 55 bytes
unfoldable pub header_text : List ℕ
header_text =
    113 ∷ 117 ∷ 101 ∷ 114 ∷ 121 ∷ 32 ∷ 115 ∷ 116 ∷ 97 ∷ 116 ∷ 117 ∷ 115 ∷ 32 ∷ 110 ∷ 51 ∷ 50 ∷ 48 ∷ 32 ∷ 110 ∷ 51 ∷ 48 ∷ 48 ∷ 32 ∷ 110 ∷ 50 ∷ 48 ∷ 48 ∷ 32 ∷ 110 ∷ 49 ∷ 48 ∷ 48 ∷ 32 ∷ 110 ∷ 53 ∷ 48 ∷ 32 ∷ 109 ∷ 105 ∷ 115 ∷ 115 ∷ 101 ∷ 115 ∷ 32 ∷ 116 ∷ 114 ∷ 105 ∷ 101 ∷ 100 ∷ 32 ∷ 108 ∷ 101 ∷ 102 ∷ 116 ∷ 10 ∷ []

-- the header, the lines of n queries, and the closing line of these totals
unfoldable pub table_text : List ℕ → ℕ → List ℕ → List ℕ
table_text out n totals = header_text ++ joined (row_text out) n ++ total_text totals

-- what is printed of an answer, with the output that goes with it
unfoldable pub answer_text : Answer SheetNumbers → List ℕ → List ℕ
answer_text (worked x) out = table_text out x.queries x.totals
answer_text (refused n) out = refused_text n

abbrev pub sheet_text : WorkedSheet → List ℕ
sheet_text w = answer_text w.answer w.bytes

-- an output of 36 bytes for each of 1,024 queries
unfoldable pub room : List ℕ
room = replicate 36864 0

-- what is printed of the bytes of a sheet
unfoldable pub printed_of : List ℕ → List ℕ
printed_of s = sheet_text (sheet_of s room)
