-- The program `sheet_text`: of a sheet with a row that check 8 or 9 stops it tells `row I: N`, the row's index and the check.
use Rattle.std.specs.Prelude.{List, [], ◌∷◌, ◌++◌, ℕ}
use Rattle.text.specs.Text.{decimal_text}

-- "row ", 4 bytes; ": " behind the index; and LF
unfoldable pub stopped_text : ℕ → ℕ → List ℕ
stopped_text i n = (114 ∷ 111 ∷ 119 ∷ 32 ∷ []) ++ decimal_text i ++ (58 ∷ 32 ∷ []) ++ decimal_text n ++ (10 ∷ [])
