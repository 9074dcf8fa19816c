-- The page 'A typed sheet' of docs/RULES.md: "A text is lines; a line ends with LF, or where the text ends, and a text that ends with LF
-- has no further line behind it. .. A CR that is the last byte of its line (before LF, or before the end of the text) belongs to the
-- line's end".
use Rattle.std.specs.Prelude.{List, [], ◌∷◌, Bool, true, false, cond, ℕ, suc, ◌+◌, eqb, take}

-- a part of a text: where it starts, and its bytes
pub record Part : Type 0 where
  pub at : ℕ
  pub bytes : List ℕ

abbrev pub part : ℕ → List ℕ → Part
part i s = record { at = i; bytes = s }

-- how many bytes stand before the first LF (10), or before the end
unfoldable pub line_size : List ℕ → ℕ
line_size [] = 0
line_size (b ∷ s) = cond (eqb b 10) 0 (suc (line_size s))

-- The lines of a text, the CR of a line's end still with them. What is looked at starts at i; `begins` says whether a line begins there: it
-- does where the text starts and behind every LF.
unfoldable pub lines_from : ℕ → Bool → List ℕ → List Part
unfolding line_size
lines_from i begins [] = []
lines_from i true (b ∷ s) = part i (take (line_size (b ∷ s)) (b ∷ s)) ∷ lines_from (i + 1) (eqb b 10) s
lines_from i false (b ∷ s) = lines_from (i + 1) (eqb b 10) s

unfoldable pub lines : List ℕ → List Part
unfolding lines_from
lines text = lines_from 0 true text

-- a line without the CR (13) that is its last byte
unfoldable pub unended : List ℕ → List ℕ
unended [] = []
unended (b ∷ []) = cond (eqb b 13) [] (b ∷ [])
unended (b ∷ c ∷ s) = b ∷ unended (c ∷ s)
