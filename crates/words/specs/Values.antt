-- The page 'A typed sheet' of docs/RULES.md, its three kinds of values: "A whole number is one digit or more, 0 to 9, at most 4294967295", "A
-- percentage is one digit or more, at most 999 (zeros in front change nothing), then, if there is a point, up to 12 digits behind it",
-- "accbits are the f64's bits as sixteen hex digits, the highest first"; and their faults, 6 to 9 of its table.
use Rattle.std.specs.Prelude.{List, [], ◌∷◌, false, cond, ℕ, ◌+◌, ◌-◌, ◌*◌, ◌^◌, eqb, ltb, length, get_or, Result, Ok, Err}
use Rattle.std.specs.Float.{binary64}
use Rattle.std.specs.Float.Ieee.{round, to_bits}
use Rattle.words.specs.Words.{small}
use Rattle.words.specs.declared.Fault.{Fault}
use Rattle.words.specs.declared.Fault.TheVariants.{NoWholeNumber, NumberTooLarge, NoPercentage, NotHex}

-- ---- whole numbers
-- digits behind those that gave n; the number is told as too large at the digit that makes the number too large
unfoldable pub digits : List ℕ → ℕ → Result ℕ Fault
digits [] n = Ok n
digits (c ∷ cs) n =
    cond (ltb c 48) (Err NoWholeNumber)
    (cond (ltb 57 c) (Err NoWholeNumber)
    (cond (ltb 4294967295 (10 * n + (c - 48))) (Err NumberTooLarge)
    (digits cs (10 * n + (c - 48)))))

unfoldable pub number_of : List ℕ → Result ℕ Fault
unfolding digits
number_of w = cond (eqb (length w) 0) (Err NoWholeNumber) (digits w 0)

-- ---- percentages
-- the bits of the f64 nearest to n / (100 * 10 ^ k): n the digits without the point, k how many stand behind it
unfoldable pub hundredth : ℕ → ℕ → ℕ
hundredth n k = to_bits binary64 (round binary64 false n (100 * 10 ^ k))

-- digits behind the point, after k of them; n is the number of all digits so far
unfoldable pub behind_point : List ℕ → ℕ → ℕ → Result ℕ Fault
unfolding hundredth
behind_point [] n k = Ok (hundredth n k)
behind_point (c ∷ cs) n k =
    cond (ltb c 48) (Err NoPercentage)
    (cond (ltb 57 c) (Err NoPercentage)
    (cond (ltb k 12) (behind_point cs (10 * n + (c - 48)) (k + 1))
    (Err NoPercentage)))

-- digits before the point (46), after those that gave n
unfoldable pub before_point : List ℕ → ℕ → Result ℕ Fault
unfolding hundredth behind_point
before_point [] n = Ok (hundredth n 0)
before_point (c ∷ cs) n =
    cond (eqb c 46) (behind_point cs n 0)
    (cond (ltb c 48) (Err NoPercentage)
    (cond (ltb 57 c) (Err NoPercentage)
    (cond (ltb 999 (10 * n + (c - 48))) (Err NoPercentage)
    (before_point cs (10 * n + (c - 48))))))

-- there is a digit before the point
unfoldable pub percent_of : List ℕ → Result ℕ Fault
unfolding before_point
percent_of w = cond (eqb (length w) 0) (Err NoPercentage) (cond (eqb (get_or w 0 0) 46) (Err NoPercentage) (before_point w 0))

-- ---- sixteen hex digits
-- 0 to 15, or 16 where c is no hex digit
abbrev pub hex_digit : ℕ → ℕ
hex_digit c =
    cond (ltb c 48) 16
    (cond (ltb c 58) (c - 48)
    (cond (ltb c 97) 16
    (cond (ltb c 103) (c - 87) 16)))

-- digits behind those that gave v
unfoldable pub hex : List ℕ → ℕ → Result ℕ Fault
hex [] v = Ok v
hex (c ∷ cs) v = cond (eqb (hex_digit (small c)) 16) (Err NotHex) (hex cs (16 * v + hex_digit (small c)))

unfoldable pub hex_of : List ℕ → Result ℕ Fault
unfolding hex
hex_of w = cond (eqb (length w) 16) (hex w 0) (Err NotHex)
