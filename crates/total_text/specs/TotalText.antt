-- Document 02, L10: "After the rows, `sheet` prints `total`, the number of rows with status 0, and the sums of their six counts", and of a
-- sheet without queries "seven zeros after the word". The line, from the seven numbers; each stands after one space.
use Rattle.std.specs.Prelude.{List, [], ◌∷◌, ◌++◌, ℕ, get_or}
use Rattle.lists.specs.Lists.{joined}
use Rattle.text.specs.Text.{decimal_text}

-- "total", 5 bytes
unfoldable pub total_word : List ℕ
total_word = 116 ∷ 111 ∷ 116 ∷ 97 ∷ 108 ∷ []

-- a space and the j-th number
unfoldable pub sum_text : List ℕ → ℕ → List ℕ
sum_text ts j = 32 ∷ decimal_text (get_or ts j 0)

unfoldable pub total_text : List ℕ → List ℕ
total_text ts = total_word ++ joined (sum_text ts) 7 ++ (10 ∷ [])
