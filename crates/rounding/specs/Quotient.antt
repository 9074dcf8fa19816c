-- Document 01, closest.rs: "floors, ceilings and roundings of quotients equal those of the exact fractions". The floor of a / b is
-- `a / b`, its nearest whole number, a half to even, `closest a b` of the library; this is its ceiling.
use Rattle.std.specs.Prelude.{ℕ, ◌+◌, ◌-◌, ◌/◌}

-- The limits of the code's quotients, within which no sum of it leaves a u32: far over any number of points, and any weight
abbrev pub most_dividend : ℕ
most_dividend = 1_000_000_000

abbrev pub most_divisor : ℕ
most_divisor = 1_000

-- a / b rounded up
unfoldable pub rounded_up : ℕ → ℕ → ℕ
rounded_up a b = (a + (b - 1)) / b
