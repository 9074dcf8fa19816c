-- Document 02, L6: "A call fills a lent u32 buffer with 320 numbers in the table's order, the formula's q at each middle and 1 elsewhere,
-- computed from five weights under the L4 conditions twice over, the first set for rows 0 to 31, the second for rows 32 to 63; a set
-- whose first two are equal folds. .. A buffer shorter than 320 is refused by 5, bad weights by 18 before that; on either the buffer
-- is unchanged, and entries past 320 never change."
use Rattle.std.specs.Prelude.{cond, ◌&&◌, List, [], ◌++◌, ℕ, eqb, ltb, length, get_or, drop}
use Rattle.lists.specs.Lists.{joined}
use Rattle.nearest_laws.specs.Nearest.{weighs}
use Rattle.stride_rows.specs.Strides.{row_rule, stride_table}

-- "320 numbers in the table's order": 64 rows of five, one after the other, those of ws first. A row is L5's, which folds by the set's own
-- first two weights.
unfoldable pub table_of : List ℕ → List ℕ → List ℕ
table_of ws vs = joined (row_rule ws vs) 64

-- "the constant table": L5's 64 rows, one after the other
unfoldable pub standard_table : List ℕ
standard_table = joined (λ r. get_or stride_table r []) 64

-- "A buffer shorter than 320 is refused by 5, bad weights by 18 before that": the status for a buffer of `room` numbers
unfoldable pub table_status : List ℕ → List ℕ → ℕ → ℕ
table_status ws vs room = cond (weighs ws && weighs vs) (cond (ltb room 320) 5 0) 18

-- "on either the buffer is unchanged, and entries past 320 never change": the buffer after the call
unfoldable pub table_out : List ℕ → List ℕ → List ℕ → List ℕ
table_out ws vs out = cond (eqb (table_status ws vs (length out)) 0) (table_of ws vs ++ drop 320 out) out
