-- Document 01, Records: "Answer, 32 bytes in the lent output per query, as u32: status, n320, n300, n200, n100, n50, misses,
-- tried", and document 02, L1: "Each answer gains `left`, an i32 after tried .. Answers are 36 bytes ..; a refused row's status is
-- followed by 32 zero bytes".
use Rattle.std.specs.Prelude.{List, [], ◌∷◌, ◌++◌, ℕ, ◌+◌, ◌*◌, get_or}
use Rattle.little_endian.specs.Bytes.{u32_at, bytes4}
use Rattle.score_state.specs.Answer.{Answer, status_of, values_of, answer_in}

-- the k-th value of an answer, from n320 (0) to tried (6) and the bits of left (7); 0 where it has none
abbrev pub value : Answer (List ℕ) → ℕ → ℕ
value a k = get_or (values_of a) k 0

-- a status and eight values, side by side
unfoldable pub field_bytes : ℕ → List ℕ → List ℕ
field_bytes status vs =
    bytes4 status ++ bytes4 (get_or vs 0 0) ++ bytes4 (get_or vs 1 0) ++ bytes4 (get_or vs 2 0) ++ bytes4 (get_or vs 3 0) ++ bytes4 (get_or vs 4 0) ++ bytes4 (get_or vs 5 0) ++ bytes4 (get_or vs 6 0) ++ bytes4 (get_or vs 7 0)

unfoldable pub answer_bytes : Answer (List ℕ) → List ℕ
answer_bytes a = field_bytes (status_of a) (values_of a)

-- ---- the answer of row k as the output holds it
abbrev pub eight_at : List ℕ → ℕ → List ℕ
eight_at out k =
    u32_at out (36 * k + 4) ∷ u32_at out (36 * k + 8) ∷ u32_at out (36 * k + 12) ∷ u32_at out (36 * k + 16) ∷ u32_at out (36 * k + 20) ∷ u32_at out (36 * k + 24) ∷ u32_at out (36 * k + 28) ∷ u32_at out (36 * k + 32) ∷ []

abbrev pub written : List ℕ → ℕ → Answer (List ℕ)
written out k = answer_in (u32_at out (36 * k)) (eight_at out k)
