-- Document 01, score_state.rs and closest.rs: an accuracy is "one f64 division", and "distances between accuracies stay f64,
-- since their rounding decides ties": one division each, one subtraction, the sign turned by hand (`.abs()` of the Rust).
use Rattle.std.specs.Prelude.{ℕ, cond, pos, Float}
use Rattle.std.specs.Float.{binary64}
use Rattle.std.specs.Float.Ieee.{sub, div, neg, lt, of_int}
use Rattle.rounding.specs.Round.{zero64}

-- p / q: one f64 division of two whole numbers
abbrev pub ratio : ℕ → ℕ → Float
ratio p q = div binary64 (of_int binary64 (pos p)) (of_int binary64 (pos q))

-- |a - b|, with the one rounding of the difference
unfoldable pub distance : Float → Float → Float
distance a b = cond (lt (sub binary64 a b) zero64) (neg (sub binary64 a b)) (sub binary64 a b)
