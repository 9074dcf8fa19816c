-- The page 'A typed sheet' of docs/RULES.md, in C: `nuqsillay_sheet_of` "returns 0 (told[0]: the sheet's length), or the fault's number 1 to 14
-- (told[0]: its line, told[1]: where its word starts in the text, told[2]: the word's length) or 15 (the output is too short for the sheet, or
-- told has fewer than three places, asked first)".
use Rattle.std.specs.Prelude.{ℕ, cond, List, [], ◌∷◌, ◌++◌, ltb, length, drop, Result, Ok, Err}
use Rattle.typed_sheet.specs.Typed.{Outcome, typed_sheet}
use Rattle.words.specs.Faults.{fault_number}
use Rattle.typed_sheet.specs.declared.TypedError.{TypedError}
use Rattle.typed_sheet.specs.declared.TypedError.TheVariants.{Faulty, Short}

abbrev pub status_of : Result ℕ TypedError → ℕ
status_of (Ok n) = 0
status_of (Err (Faulty told)) = fault_number told.fault
status_of (Err Short) = 15

abbrev pub numbers_of : Result ℕ TypedError → List ℕ
numbers_of (Ok n) = n ∷ []
numbers_of (Err (Faulty told)) = told.line ∷ told.word.at ∷ told.word.size ∷ []
numbers_of (Err Short) = []

-- a status, all bytes of the output and all numbers behind the pointer to told
pub record Lent : Type 0 where
  pub status : ℕ
  pub out : List ℕ
  pub told : List ℕ

abbrev pub lent_by : ℕ → List ℕ → List ℕ → Lent
lent_by status out told = record { status = status; out = out; told = told }

-- an outcome's numbers in front of what stood there
abbrev pub lent_of : Outcome → List ℕ → Lent
lent_of o told = lent_by (status_of o.answer) o.bytes (numbers_of o.answer ++ drop (length (numbers_of o.answer)) told)

unfoldable pub sheet_told : List ℕ → List ℕ → List ℕ → Lent
sheet_told text out told = cond (ltb (length told) 3) (lent_by 15 out told) (lent_of (typed_sheet text out) told)
