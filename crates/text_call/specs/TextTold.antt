-- The page 'A typed sheet' of docs/RULES.md, in C: `nuqsillay_text_of` "returns 0 (told[0]: the text's length), 1, 2, 3, 4 or 18, 8 or 9 (told[0]: the row's
-- index), or 5 (the output is too short, or told has no place, asked first)".
use Rattle.std.specs.Prelude.{ℕ, cond, List, [], ◌∷◌, ◌++◌, ltb, length, drop}
use Rattle.typed_call.specs.Told.{Lent, lent_by}
use Rattle.typed_text.specs.SheetText.{TextAnswer, text, refused, row, short, Outcome, sheet_text}

abbrev pub status_of : TextAnswer → ℕ
status_of (text n) = 0
status_of (refused n) = n
status_of (row index n) = n
status_of short = 5

abbrev pub numbers_of : TextAnswer → List ℕ
numbers_of (text n) = n ∷ []
numbers_of (refused n) = []
numbers_of (row index n) = index ∷ []
numbers_of short = []

-- an outcome's number in front of what stood there
abbrev pub lent_of : Outcome → List ℕ → Lent
lent_of o told = lent_by (status_of o.answer) o.bytes (numbers_of o.answer ++ drop (length (numbers_of o.answer)) told)

unfoldable pub text_told : List ℕ → List ℕ → List ℕ → Lent
text_told sheet out told = cond (ltb (length told) 1) (lent_by 5 out told) (lent_of (sheet_text sheet out) told)
