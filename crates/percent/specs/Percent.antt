-- The page 'A typed sheet' of docs/RULES.md, 'The way back': the accuracy stands "as `acc P` if a percentage has its bits, the one with the
-- fewest digits behind the point".
use Rattle.std.specs.Prelude.{Bool, false, cond, ℕ, zero, suc, ◌+◌, ◌*◌, ◌^◌, eqb, ltb, Float, Option, Some, None}
use Rattle.std.specs.Float.{nan, inf, fin, binary64}
use Rattle.std.specs.Float.Ieee.{up, down, of_bits}
use Rattle.std.specs.Float.Ieee.Nearest.{closest}
use Rattle.words.specs.Values.{hundredth}
use Rattle.percent.specs.declared.Percentage.{Percentage}

-- the whole number nearest to the size of x times n, a half to even: a finite x is (m * up e) / down e; 0 of an infinity or a NaN
unfoldable pub whole_of : Float → ℕ → ℕ
whole_of nan n = 0
whole_of (inf s) n = 0
whole_of (fin s m e) n = closest (m * up e * n) (down e)

-- the accuracy of these bits in percent, rounded to k digits behind the point: its digits without the point
unfoldable pub percent_at : ℕ → ℕ → ℕ
unfolding whole_of
percent_at bits k = whole_of (of_bits binary64 bits) (100 * 10 ^ k)

-- "at most 999" before the point, and read as these very bits
unfoldable pub reads : ℕ → ℕ → ℕ → Bool
unfolding hundredth
reads bits n k = cond (ltb n (1000 * 10 ^ k)) (eqb (hundredth n k) bits) false

-- by its digits without the point, and how many stand behind it
abbrev pub percentage : ℕ → ℕ → Percentage
percentage n k = record { digits = n; places = k }

-- that percentage, if it has these bits
unfoldable pub percent_with : ℕ → ℕ → Option Percentage
unfolding percent_at reads
percent_with bits k = cond (reads bits (percent_at bits k) k) (Some (percentage (percent_at bits k) k)) None

abbrev pub or_else : Option Percentage → Option Percentage → Option Percentage
or_else (Some q) p = Some q
or_else None p = p

-- the first such one, with k digits behind the point or with more, of `many` numbers of digits in all
unfoldable pub percent_from : ℕ → ℕ → ℕ → Option Percentage
unfolding percent_with
percent_from zero k bits = None
percent_from (suc many) k bits = or_else (percent_with bits k) (percent_from many (k + 1) bits)

-- with 0 to 12
unfoldable pub shortest : ℕ → Option Percentage
unfolding percent_from
shortest bits = percent_from 13 0 bits
