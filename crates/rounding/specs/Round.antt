-- Document 01, Target: "one f64 product, taken to the nearest whole number, a half to even"; `f64::round_ties_even` of the Rust.
-- f64 values and operations are IEEE 754's, by the library `lib.Ieee`. Definitions only.
use Rattle.std.specs.Prelude.{ℕ, ◌*◌, false, cond, pos, Float}
use Rattle.std.specs.Float.{nan, inf, fin, binary64}
use Rattle.std.specs.Float.Ieee.{up, down, mul, of_int}
use Rattle.std.specs.Float.Ieee.Nearest.{closest}

-- The whole number nearest to x, a half to the even one: a finite x is (m * up e) / down e, and `closest a b` is a / b to
-- the nearest, a half to even. What is below zero counts as 0, as where the Rust writes `.max(0.0)`; so do an infinity and NaN.
unfoldable pub round_even : Float → ℕ
round_even nan = 0
round_even (inf s) = 0
round_even (fin s m e) = cond s 0 (closest (m * up e) (down e))

-- acc times n: one f64 product
abbrev pub product : Float → ℕ → Float
product acc n = mul binary64 acc (of_int binary64 (pos n))

-- 0.0 and 1.0
abbrev pub zero64 : Float
zero64 = fin false 0 (pos 0)

abbrev pub one64 : Float
one64 = fin false 1 (pos 0)
