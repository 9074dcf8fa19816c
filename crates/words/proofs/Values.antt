-- The values of a word, a byte at a time.
-- Assumes nothing.
use mathlib.Core.Path.{◌≡◌}
use mathlib.Core.List.{List, ◌∷◌}
use Prim.Native.Nat.{ℕ, ◌+◌, ◌-◌, ◌*◌, ◌<◌, ◌≤◌}
use lib.ListN.{length, drop, get_or}
use borrow.Author.Tests.{lt-ltb, le-ltb, eq-eqb, ne_eqb}
use Rattle.std.specs.Prelude.{Ok, Err}
use Rattle.words.specs.declared.Fault.TheVariants.{NoWholeNumber, NumberTooLarge, NoPercentage, NotHex}
use Rattle.words.specs.Words.{small}
use Rattle.words.specs.Values.{digits, hundredth, behind_point, before_point, hex_digit, hex}
use Rattle.words.proofs.Sizes.{over, here}

-- past the end
module _ (w : List ℕ) (i : ℕ) (h : length w ≤ i) where
  pub digits-over : (n : ℕ) → digits (drop i w) n ≡ Ok n
  unfolding digits
  digits-over n = rw (over w i h)

  pub behind_over : (n k : ℕ) → behind_point (drop i w) n k ≡ Ok (hundredth n k)
  unfolding behind_point
  behind_over n k = rw (over w i h)

  pub before_over : (n : ℕ) → before_point (drop i w) n ≡ Ok (hundredth n 0)
  unfolding before_point
  before_over n = rw (over w i h)

  pub hex-over : (v : ℕ) → hex (drop i w) v ≡ Ok v
  unfolding hex
  hex-over v = rw (over w i h)

-- at a byte c
module _ (w : List ℕ) (i c : ℕ) (h : i < length w) (e : c ≡ get_or w i 0) where
  at_c : drop i w ≡ c ∷ drop (i + 1) w
  at_c = rw e (here w i h)

  -- a whole number
  pub digits_low : (n : ℕ) → c < 48 → digits (drop i w) n ≡ Err NoWholeNumber
  unfolding digits
  digits_low n l = rw (at_c, lt-ltb c 48 l)

  pub digits_high : (n : ℕ) → 48 ≤ c → 57 < c → digits (drop i w) n ≡ Err NoWholeNumber
  unfolding digits
  digits_high n l u = rw (at_c, le-ltb c 48 l, lt-ltb 57 c u)

  pub digits_large : (n : ℕ) → 48 ≤ c → c ≤ 57 → 4294967295 < 10 * n + (c - 48) → digits (drop i w) n ≡ Err NumberTooLarge
  unfolding digits
  digits_large n l u o = rw (at_c, le-ltb c 48 l, le-ltb 57 c u, lt-ltb 4294967295 (10 * n + (c - 48)) o)

  pub digits_on : (n : ℕ) → 48 ≤ c → c ≤ 57 → 10 * n + (c - 48) ≤ 4294967295 → digits (drop i w) n ≡ digits (drop (i + 1) w) (10 * n + (c - 48))
  unfolding digits
  digits_on n l u o = rw (at_c, le-ltb c 48 l, le-ltb 57 c u, le-ltb 4294967295 (10 * n + (c - 48)) o)

  -- behind the point
  pub behind_low : (n k : ℕ) → c < 48 → behind_point (drop i w) n k ≡ Err NoPercentage
  unfolding behind_point
  behind_low n k l = rw (at_c, lt-ltb c 48 l)

  pub behind_high : (n k : ℕ) → 48 ≤ c → 57 < c → behind_point (drop i w) n k ≡ Err NoPercentage
  unfolding behind_point
  behind_high n k l u = rw (at_c, le-ltb c 48 l, lt-ltb 57 c u)

  pub behind_long : (n k : ℕ) → 48 ≤ c → c ≤ 57 → 12 ≤ k → behind_point (drop i w) n k ≡ Err NoPercentage
  unfolding behind_point
  behind_long n k l u o = rw (at_c, le-ltb c 48 l, le-ltb 57 c u, le-ltb k 12 o)

  pub behind_on : (n k : ℕ) → 48 ≤ c → c ≤ 57 → k < 12 → behind_point (drop i w) n k ≡ behind_point (drop (i + 1) w) (10 * n + (c - 48)) (k + 1)
  unfolding behind_point
  behind_on n k l u o = rw (at_c, le-ltb c 48 l, le-ltb 57 c u, lt-ltb k 12 o)

  -- before the point
  pub before-point : (n : ℕ) → c ≡ 46 → before_point (drop i w) n ≡ behind_point (drop (i + 1) w) n 0
  unfolding before_point
  before-point n p = rw (at_c, eq-eqb c 46 p)

  pub before_low : (n : ℕ) → (c ≡ 46 → ⊥) → c < 48 → before_point (drop i w) n ≡ Err NoPercentage
  unfolding before_point
  before_low n p l = rw (at_c, ne_eqb c 46 p, lt-ltb c 48 l)

  pub before_high : (n : ℕ) → (c ≡ 46 → ⊥) → 48 ≤ c → 57 < c → before_point (drop i w) n ≡ Err NoPercentage
  unfolding before_point
  before_high n p l u = rw (at_c, ne_eqb c 46 p, le-ltb c 48 l, lt-ltb 57 c u)

  pub before_large : (n : ℕ) → (c ≡ 46 → ⊥) → 48 ≤ c → c ≤ 57 → 999 < 10 * n + (c - 48) → before_point (drop i w) n ≡ Err NoPercentage
  unfolding before_point
  before_large n p l u o = rw (at_c, ne_eqb c 46 p, le-ltb c 48 l, le-ltb 57 c u, lt-ltb 999 (10 * n + (c - 48)) o)

  pub before_on : (n : ℕ) → (c ≡ 46 → ⊥) → 48 ≤ c → c ≤ 57 → 10 * n + (c - 48) ≤ 999 → before_point (drop i w) n ≡ before_point (drop (i + 1) w) (10 * n + (c - 48))
  unfolding before_point
  before_on n p l u o = rw (at_c, ne_eqb c 46 p, le-ltb c 48 l, le-ltb 57 c u, le-ltb 999 (10 * n + (c - 48)) o)

-- a hex digit d
module _ (w : List ℕ) (i d : ℕ) (h : i < length w) (e : d ≡ hex_digit (small (get_or w i 0))) where
  pub hex-none : (v : ℕ) → d ≡ 16 → hex (drop i w) v ≡ Err NotHex
  unfolding hex
  hex-none v z = rw (here w i h, ← e, eq-eqb d 16 z)

  pub hex_on : (v : ℕ) → (d ≡ 16 → ⊥) → hex (drop i w) v ≡ hex (drop (i + 1) w) (16 * v + d)
  unfolding hex
  hex_on v z = rw (here w i h, ← e, ne_eqb d 16 z)
