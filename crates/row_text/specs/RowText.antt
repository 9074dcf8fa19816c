-- Document 01, Program `sheet`: it prints "one row per query: index, then the answer's fields"; document 02, L1: "each printed row end[s] with
-- left, a minus sign before a negative one." The bytes of a row, from the bytes of the output.
use Rattle.std.specs.Prelude.{List, [], ◌∷◌, ◌++◌, ℕ, ◌+◌, ◌*◌}
use Rattle.lists.specs.Lists.{joined}
use Rattle.little_endian.specs.Bytes.{u32_at}
use Rattle.text.specs.Text.{decimal_text, signed_text}

-- a space and the k-th number of the answer that starts at `from`
unfoldable pub field_text : List ℕ → ℕ → ℕ → List ℕ
field_text out from k = 32 ∷ decimal_text (u32_at out (from + 4 * k))

-- its eight fields up to tried
unfoldable pub fields_text : List ℕ → ℕ → List ℕ
fields_text out from = joined (field_text out from) 8

-- a space and its left, an i32
unfoldable pub left_text : List ℕ → ℕ → List ℕ
left_text out from = 32 ∷ signed_text (u32_at out (from + 32))

-- the line of query i: its index, and the fields of its answer, 36 bytes of the output
unfoldable pub row_text : List ℕ → ℕ → List ℕ
row_text out i = decimal_text i ++ fields_text out (36 * i) ++ left_text out (36 * i) ++ (10 ∷ [])
