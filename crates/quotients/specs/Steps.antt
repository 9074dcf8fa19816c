-- closest.rs: f64 steps as the Rust writes them, `.floor()`, `.ceil()`, `.round_ties_even()`, `.max(0.0)`, `as u32`, and the
-- quotient of two whole numbers. f64 values and operations are IEEE 754's, by the library `lib.Ieee`. Definitions only.
use Rattle.std.specs.Prelude.{ℕ, ◌*◌, ◌/◌, false, cond, ℤ, pos, negsuc, Float}
use Rattle.std.specs.Float.{nan, inf, fin, binary64}
use Rattle.std.specs.Float.Ieee.{up, down, round, div, lt, is_nan, of_int, to_unsigned}
use Rattle.std.specs.Float.Ieee.Nearest.{closest}
use Rattle.rounding.specs.Round.{zero64}
use Rattle.rounding.specs.Quotient.{rounded_up}

-- A finite x is ±(m * up e) / down e. Its floor and the like are the f64 of that size, with x's sign: `round` changes no whole
-- number that it is handed here, since an f64 from 2 ^ 53 on is whole itself.
unfoldable pub floor : Float → Float
floor nan = nan
floor (inf s) = inf s
floor (fin s m e) = round binary64 s (cond s (rounded_up (m * up e) (down e)) (m * up e / down e)) 1

unfoldable pub ceil : Float → Float
ceil nan = nan
ceil (inf s) = inf s
ceil (fin s m e) = round binary64 s (cond s (m * up e / down e) (rounded_up (m * up e) (down e))) 1

unfoldable pub round_ties_even : Float → Float
round_ties_even nan = nan
round_ties_even (inf s) = inf s
round_ties_even (fin s m e) = round binary64 s (closest (m * up e) (down e)) 1

-- `f64::max`: of a NaN and another it is the other. Of -0.0 and 0.0 the Rust may give either.
unfoldable pub max : Float → Float → Float
max x y = cond (is_nan x) y (cond (lt x y) y x)

-- `f64::abs`
unfoldable pub abs : Float → Float
abs nan = nan
abs (inf s) = inf false
abs (fin s m e) = fin false m e

-- `as u32`
abbrev pub as_u32 : Float → ℕ
as_u32 x = to_unsigned 32 x

-- `i as f64 / b as f64`
abbrev pub quotient : ℤ → ℤ → Float
quotient i b = div binary64 (of_int binary64 i) (of_int binary64 b)

-- `.floor().max(0.0) as u32`, `.ceil().max(0.0) as u32`, `.ceil() as u32`, `.round_ties_even().max(0.0) as u32`
abbrev pub floor_u32 : Float → ℕ
floor_u32 x = as_u32 (max (floor x) zero64)

abbrev pub ceil_u32 : Float → ℕ
ceil_u32 x = as_u32 (max (ceil x) zero64)

abbrev pub ceil_as_u32 : Float → ℕ
ceil_as_u32 x = as_u32 (ceil x)

abbrev pub round_u32 : Float → ℕ
round_u32 x = as_u32 (max (round_ties_even x) zero64)

-- i, and 0 where it is negative
unfoldable pub or_zero : ℤ → ℕ
or_zero (pos n) = n
or_zero (negsuc n) = 0
