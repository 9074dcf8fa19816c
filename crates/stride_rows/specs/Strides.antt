-- Document 02, L5: "replace the formula for q by 64 rows of five strides, one row for each classic flag and presence pattern; positions
-- that are no middle hold 1. Row number is 32 times classic plus the five presence bits. The row applies before the classic pair is
-- folded, and gives the strides after folding."
use Rattle.std.specs.Prelude.{ℕ, ◌+◌, ◌*◌, ◌%◌, Bool, cond, List, [], ◌∷◌, map, ltb}
use Rattle.std.proofs.Math.Option.{Option}
use Rattle.score_state.specs.Given.{missing}
use Rattle.inspect.specs.Presence.{five_given}
use Rattle.nearest_laws.specs.Walk.{Middle, last_of}
use Rattle.nearest_laws.specs.Places.{slots}
use Rattle.nearest_laws.specs.Nearest.{fold}

-- ---- The formula: "the strides after folding", q at a middle and 1 elsewhere.

-- the first of a list, d where there is none
unfoldable pub first_of : ℕ → List ℕ → ℕ
first_of d [] = d
first_of d (a ∷ bs) = a

-- a stride for each of five weights, where the counts gs are given before the fold
unfoldable pub strides_of : List ℕ → List (Option ℕ) → List ℕ
strides_of ws gs =
    let hs = fold ws gs in
    let us = missing ws hs in
    map (λ (m : Middle). m.q) (slots (first_of 0 us) (last_of 0 us) ws hs)

-- the counts that a presence number says to be given; which numbers they are plays no part in a stride
abbrev pub pattern_of : ℕ → List (Option ℕ)
pattern_of p = five_given p 0 0 0 0 0

-- row r by the formula, of a weighting ws that is not classic and of a classic one, vs
abbrev pub row_rule : List ℕ → List ℕ → ℕ → List ℕ
row_rule ws vs r = strides_of (cond (ltb r 32) ws vs) (pattern_of (r % 32))

-- ---- The table.

-- "Row number is 32 times classic plus the five presence bits"
abbrev pub row_of : Bool → ℕ → ℕ
row_of classic p = 32 * cond classic 1 0 + p % 32

-- "64 rows of five strides", from n320 to n50. Behind each row its number and the missing weights; one in brackets is folded away.
unfoldable pub stride_table : List (List ℕ)
stride_table =
    (1 ∷ 51 ∷ 17 ∷ 51 ∷ 1 ∷ []) ∷  -- 0: 61 60 40 20 10
    (1 ∷ 1 ∷ 5 ∷ 5 ∷ 1 ∷ []) ∷  -- 1: 60 40 20 10
    (1 ∷ 1 ∷ 17 ∷ 51 ∷ 1 ∷ []) ∷  -- 2: 61 40 20 10
    (1 ∷ 1 ∷ 1 ∷ 3 ∷ 1 ∷ []) ∷  -- 3: 40 20 10
    (1 ∷ 51 ∷ 1 ∷ 51 ∷ 1 ∷ []) ∷  -- 4: 61 60 20 10
    (1 ∷ 1 ∷ 1 ∷ 5 ∷ 1 ∷ []) ∷  -- 5: 60 20 10
    (1 ∷ 1 ∷ 1 ∷ 51 ∷ 1 ∷ []) ∷  -- 6: 61 20 10
    (1 ∷ 1 ∷ 1 ∷ 1 ∷ 1 ∷ []) ∷  -- 7: 20 10
    (1 ∷ 51 ∷ 17 ∷ 1 ∷ 1 ∷ []) ∷  -- 8: 61 60 40 10
    (1 ∷ 1 ∷ 5 ∷ 1 ∷ 1 ∷ []) ∷  -- 9: 60 40 10
    (1 ∷ 1 ∷ 17 ∷ 1 ∷ 1 ∷ []) ∷  -- 10: 61 40 10
    (1 ∷ 1 ∷ 1 ∷ 1 ∷ 1 ∷ []) ∷  -- 11: 40 10
    (1 ∷ 51 ∷ 1 ∷ 1 ∷ 1 ∷ []) ∷  -- 12: 61 60 10
    (1 ∷ 1 ∷ 1 ∷ 1 ∷ 1 ∷ []) ∷  -- 13: 60 10
    (1 ∷ 1 ∷ 1 ∷ 1 ∷ 1 ∷ []) ∷  -- 14: 61 10
    (1 ∷ 1 ∷ 1 ∷ 1 ∷ 1 ∷ []) ∷  -- 15: 10
    (1 ∷ 41 ∷ 41 ∷ 1 ∷ 1 ∷ []) ∷  -- 16: 61 60 40 20
    (1 ∷ 1 ∷ 2 ∷ 1 ∷ 1 ∷ []) ∷  -- 17: 60 40 20
    (1 ∷ 1 ∷ 41 ∷ 1 ∷ 1 ∷ []) ∷  -- 18: 61 40 20
    (1 ∷ 1 ∷ 1 ∷ 1 ∷ 1 ∷ []) ∷  -- 19: 40 20
    (1 ∷ 41 ∷ 1 ∷ 1 ∷ 1 ∷ []) ∷  -- 20: 61 60 20
    (1 ∷ 1 ∷ 1 ∷ 1 ∷ 1 ∷ []) ∷  -- 21: 60 20
    (1 ∷ 1 ∷ 1 ∷ 1 ∷ 1 ∷ []) ∷  -- 22: 61 20
    (1 ∷ 1 ∷ 1 ∷ 1 ∷ 1 ∷ []) ∷  -- 23: 20
    (1 ∷ 21 ∷ 1 ∷ 1 ∷ 1 ∷ []) ∷  -- 24: 61 60 40
    (1 ∷ 1 ∷ 1 ∷ 1 ∷ 1 ∷ []) ∷  -- 25: 60 40
    (1 ∷ 1 ∷ 1 ∷ 1 ∷ 1 ∷ []) ∷  -- 26: 61 40
    (1 ∷ 1 ∷ 1 ∷ 1 ∷ 1 ∷ []) ∷  -- 27: 40
    (1 ∷ 1 ∷ 1 ∷ 1 ∷ 1 ∷ []) ∷  -- 28: 61 60
    (1 ∷ 1 ∷ 1 ∷ 1 ∷ 1 ∷ []) ∷  -- 29: 60
    (1 ∷ 1 ∷ 1 ∷ 1 ∷ 1 ∷ []) ∷  -- 30: 61
    (1 ∷ 1 ∷ 1 ∷ 1 ∷ 1 ∷ []) ∷  -- 31: none
    (1 ∷ 1 ∷ 5 ∷ 5 ∷ 1 ∷ []) ∷  -- 32: 60 (60) 40 20 10
    (1 ∷ 1 ∷ 5 ∷ 5 ∷ 1 ∷ []) ∷  -- 33: 60 40 20 10
    (1 ∷ 1 ∷ 5 ∷ 5 ∷ 1 ∷ []) ∷  -- 34: 60 40 20 10
    (1 ∷ 1 ∷ 1 ∷ 3 ∷ 1 ∷ []) ∷  -- 35: 40 20 10
    (1 ∷ 1 ∷ 1 ∷ 5 ∷ 1 ∷ []) ∷  -- 36: 60 (60) 20 10
    (1 ∷ 1 ∷ 1 ∷ 5 ∷ 1 ∷ []) ∷  -- 37: 60 20 10
    (1 ∷ 1 ∷ 1 ∷ 5 ∷ 1 ∷ []) ∷  -- 38: 60 20 10
    (1 ∷ 1 ∷ 1 ∷ 1 ∷ 1 ∷ []) ∷  -- 39: 20 10
    (1 ∷ 1 ∷ 5 ∷ 1 ∷ 1 ∷ []) ∷  -- 40: 60 (60) 40 10
    (1 ∷ 1 ∷ 5 ∷ 1 ∷ 1 ∷ []) ∷  -- 41: 60 40 10
    (1 ∷ 1 ∷ 5 ∷ 1 ∷ 1 ∷ []) ∷  -- 42: 60 40 10
    (1 ∷ 1 ∷ 1 ∷ 1 ∷ 1 ∷ []) ∷  -- 43: 40 10
    (1 ∷ 1 ∷ 1 ∷ 1 ∷ 1 ∷ []) ∷  -- 44: 60 (60) 10
    (1 ∷ 1 ∷ 1 ∷ 1 ∷ 1 ∷ []) ∷  -- 45: 60 10
    (1 ∷ 1 ∷ 1 ∷ 1 ∷ 1 ∷ []) ∷  -- 46: 60 10
    (1 ∷ 1 ∷ 1 ∷ 1 ∷ 1 ∷ []) ∷  -- 47: 10
    (1 ∷ 1 ∷ 2 ∷ 1 ∷ 1 ∷ []) ∷  -- 48: 60 (60) 40 20
    (1 ∷ 1 ∷ 2 ∷ 1 ∷ 1 ∷ []) ∷  -- 49: 60 40 20
    (1 ∷ 1 ∷ 2 ∷ 1 ∷ 1 ∷ []) ∷  -- 50: 60 40 20
    (1 ∷ 1 ∷ 1 ∷ 1 ∷ 1 ∷ []) ∷  -- 51: 40 20
    (1 ∷ 1 ∷ 1 ∷ 1 ∷ 1 ∷ []) ∷  -- 52: 60 (60) 20
    (1 ∷ 1 ∷ 1 ∷ 1 ∷ 1 ∷ []) ∷  -- 53: 60 20
    (1 ∷ 1 ∷ 1 ∷ 1 ∷ 1 ∷ []) ∷  -- 54: 60 20
    (1 ∷ 1 ∷ 1 ∷ 1 ∷ 1 ∷ []) ∷  -- 55: 20
    (1 ∷ 1 ∷ 1 ∷ 1 ∷ 1 ∷ []) ∷  -- 56: 60 (60) 40
    (1 ∷ 1 ∷ 1 ∷ 1 ∷ 1 ∷ []) ∷  -- 57: 60 40
    (1 ∷ 1 ∷ 1 ∷ 1 ∷ 1 ∷ []) ∷  -- 58: 60 40
    (1 ∷ 1 ∷ 1 ∷ 1 ∷ 1 ∷ []) ∷  -- 59: 40
    (1 ∷ 1 ∷ 1 ∷ 1 ∷ 1 ∷ []) ∷  -- 60: 60 (60)
    (1 ∷ 1 ∷ 1 ∷ 1 ∷ 1 ∷ []) ∷  -- 61: 60
    (1 ∷ 1 ∷ 1 ∷ 1 ∷ 1 ∷ []) ∷  -- 62: 60
    (1 ∷ 1 ∷ 1 ∷ 1 ∷ 1 ∷ []) ∷  -- 63: none
    []
