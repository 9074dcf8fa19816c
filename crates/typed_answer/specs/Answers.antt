-- The page 'A typed sheet' of docs/RULES.md: what a text gives, its sheet or how its first fault is told; and what is printed of the sheet.
use Rattle.std.specs.Prelude.{List, ◌≡◌, ℕ, take, drop, Result, Ok, Err}
use Rattle.io.specs.Counts.{IsPrefixLen}
use Rattle.fault_text.specs.FaultText.{fault_text}
use Rattle.table.specs.Table.{printed_of}
use Rattle.words.specs.Faults.{fault_number}
use Rattle.typed_sheet.specs.declared.LineFault.{LineFault}
use Rattle.typed_sheet.specs.declared.Tally.{Tally}
use Rattle.typed_sheet.specs.Typed.{tally_of, sheet_bytes}
use Rattle.typed_answer.specs.declared.Told.{Told}

pub data Answer : Type 0 where
  made : List ℕ → Answer
  told : List ℕ → Answer

-- the sheet of a text, or the message of its first fault, with the bytes of the text where the fault's word stands
unfoldable pub answer_of : List ℕ → Result Tally LineFault → Answer
unfolding fault_text sheet_bytes
answer_of text (Ok t) = made (sheet_bytes text t.charts t.weights t.plays)
answer_of text (Err f) = told (fault_text f.line (fault_number f.fault) (take f.word.size (drop f.word.at text)))

unfoldable pub sheet_answer : List ℕ → Answer
unfolding answer_of tally_of
sheet_answer text = answer_of text (tally_of text)

-- what the program `sheet` prints of that sheet, or the same message
abbrev pub printed : Answer → Answer
printed (made sheet) = made (printed_of sheet)
printed (told message) = told message

unfoldable pub table_answer : List ℕ → Answer
unfolding sheet_answer
table_answer text = printed (sheet_answer text)

-- what a call answers: so many bytes of its first buffer, or of its second, the message's
abbrev pub answered : Result ℕ Told → List ℕ → List ℕ → Answer
answered (Ok n) out message = made (take n out)
answered (Err t) out message = told (take t.0 message)

-- the buffer has so many bytes
abbrev pub Held : Result ℕ Told → List ℕ → List ℕ → Type 0
Held (Ok n) out message = IsPrefixLen n out
Held (Err t) out message = IsPrefixLen t.0 message

pub record Makes (a : Answer) (r : Result ℕ Told) (out message : List ℕ) : Type 0 where
  pub held : Held r out message
  pub is : answered r out message ≡ a
