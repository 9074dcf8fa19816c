-- Document 02, L6: "A small program reads the ten weights as 40 bytes of u32 from standard input and prints it, five numbers a line with
-- single spaces between; any other length prints `refused 1`, bad weights `refused 18`." The bytes that it prints, from those it reads.
use Rattle.std.specs.Prelude.{cond, ◌&&◌, List, [], ◌∷◌, ◌++◌, ℕ, ◌*◌, eqb, length, take, drop}
use Rattle.lists.specs.Lists.{joined}
use Rattle.score_state.specs.Points.{weights_of}
use Rattle.nearest_laws.specs.Nearest.{weighs}
use Rattle.stride_table.specs.StrideTable.{table_of}
use Rattle.records.specs.Records.{weights_at}
use Rattle.text.specs.Text.{decimal_text, refused_text}

-- numbers "with single spaces between"
unfoldable pub spaced : List ℕ → List ℕ
spaced [] = []
spaced (n ∷ []) = decimal_text n
spaced (n ∷ (m ∷ ns)) = decimal_text n ++ (32 ∷ spaced (m ∷ ns))

-- a line of them
unfoldable pub line_text : List ℕ → List ℕ
line_text ns = spaced ns ++ (10 ∷ [])

-- line i of a table: its numbers from 5 i on
unfoldable pub stride_line : List ℕ → ℕ → List ℕ
stride_line t i = line_text (take 5 (drop (5 * i) t))

-- a table's 320 numbers, "five numbers a line"
unfoldable pub strides_text : List ℕ → List ℕ
strides_text t = joined (stride_line t) 64

-- the two sets, of five u32 each
abbrev pub first_set : List ℕ → List ℕ
first_set s = weights_of (weights_at s 0)

abbrev pub second_set : List ℕ → List ℕ
second_set s = weights_of (weights_at s 20)

-- what is printed of the bytes that were read
unfoldable pub printed_strides : List ℕ → List ℕ
printed_strides s =
    cond (eqb (length s) 40)
    (cond (weighs (first_set s) && weighs (second_set s)) (strides_text (table_of (first_set s) (second_set s))) (refused_text 18))
    (refused_text 1)
