-- Document 01, Where a row or sheet stops: chart 7 "objects or holds over 100,000", row 8 "unknown method, priority or classic", row 9 "a
-- missing field .. holds a nonzero byte", in this order; and Records: "5: presence u8, bits 0 to 7 for n320, n300, n200, n100, n50, misses,
-- acc, passed". Document 02, L2: "byte 6 may be 1, and then a u32 at 44 says how many holds were passed", "With byte 6 at 0 the last field
-- must be zero", "A nonzero last field there, a byte 6 above 1 or a nonzero byte 7 is 9."; L4: "19 row: method 1 or 2 with own weights,
-- after 9".
use Rattle.std.specs.Prelude.{Bool, false, not, cond, ◌&&◌, ◌||◌, ℕ, eqb, ltb}
use Rattle.inspect.specs.Presence.{has}
use Rattle.inspect.specs.Checks.{chart_over}
use Rattle.inspect.specs.declared.Chart.{Chart}
use Rattle.weighting.specs.declared.Scoring.{Scoring}
use Rattle.weighting.specs.declared.Scoring.TheVariants.{Standard, Own}
use Rattle.records.specs.declared.Row.{Row}

-- a missing field, by the place value of its presence bit, that is not all zero bytes
unfoldable pub left_over : ℕ → ℕ → Bool → Bool
left_over presence place nonzero = not (has presence place) && nonzero

-- "A nonzero last field there [with byte 6 at 0], a byte 6 above 1"
unfoldable pub holds_left : ℕ → Bool → Bool
holds_left given nonzero = (eqb given 0 && nonzero) || ltb 1 given

-- check 9: by the bits of acc, so that a missing acc of -0.0 is found too
unfoldable pub fields_left : Row → Bool
fields_left row =
    left_over row.presence 1 (ltb 0 row.n320)
    || left_over row.presence 2 (ltb 0 row.n300)
    || left_over row.presence 4 (ltb 0 row.n200)
    || left_over row.presence 8 (ltb 0 row.n100)
    || left_over row.presence 16 (ltb 0 row.n50)
    || left_over row.presence 32 (ltb 0 row.misses)
    || left_over row.presence 64 (ltb 0 row.acc)
    || left_over row.presence 128 (ltb 0 row.passed)
    || holds_left row.holds_given (ltb 0 row.holds_passed)
    || ltb 0 row.zero

-- check 8: methods 0 to 3, priorities 0 and 1, classic 0 and 1
unfoldable pub unknown_row : Row → Bool
unknown_row row = ltb 3 row.method || ltb 1 row.priority || ltb 1 row.classic

-- check 19: Fast and Closest have the standard weights of their files
unfoldable pub own_unfit : Scoring → ℕ → Bool
own_unfit Standard method = false
own_unfit (Own w) method = eqb method 1 || eqb method 2

-- Checks 7 to 9 and 19 of a row and the chart that it names, by the sheet's scoring: the number of the first that stops it, or 0.
unfoldable pub row_stop : Scoring → Row → Chart → ℕ
row_stop sc row chart =
    cond (chart_over chart) 7 (cond (unknown_row row) 8 (cond (fields_left row) 9 (cond (own_unfit sc row.method) 19 0)))
