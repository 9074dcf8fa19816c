-- The f64 steps of closest.rs on quotients of whole numbers: `i as f64 / b as f64`, its floor, its ceiling and its nearest whole
-- number as u32 are those of the exact fraction, and 0 where i is negative. Once for every i up to 2 ^ 31 and b from 1 to 2 ^ 20.
-- Assumes nothing.
use mathlib.Core.Path.{◌≡◌, refl, sym, ap, ◌∙◌, subst}
use Prim.Native.Nat.{ℕ, zero, suc, ◌+◌, ◌-◌, ◌*◌, ◌/◌, ◌%◌, ◌^◌, ◌≤◌, ◌<◌, zero-le, compare}
use native.Mathlib.Nat.{le_of_lt, le_trans, le_of_eq, lt_of_lt_of_le, zero-mul, div-le_self, mul-one, zero-div, le-mul_of_pos_right}
use native.Mathlib.Omega.{arith}
use mathlib.Core.Bool.{Bool, true, false, cond, true≢false}
use lib.IntN.{ℤ, pos, negsuc}
use lib.Dec.{T, ltb, eqb, le→leb, lit<, lit≤}
use lib.Pow.{pow_pos}
use lib.Ieee.{Float, nan, inf, fin, binary64, prec, emax, low, up, down, nearest, size, odd, units, round, div, lt, le, is_nan, of_int, in_float, to_unsigned}
use lib.Ieee.Fits.{down_pos}
use lib.Ieee.Exact.{HasValue}
use lib.Ieee.Order.{round_mono}
use lib.Ieee.Back.{round_whole, unsigned_back}
use lib.Ieee.Nearest.{closest, closest_same, div_same}
use lib.Ieee.Scale.{grid, finite, round_val, round_under}
use Rattle.rounding.specs.Round.{zero64}
use Rattle.rounding.specs.Quotient.{rounded_up}
use Rattle.rounding.proofs.Floats.{of-int, zero_is}
use Rattle.rounding.proofs.Distance.{ratio-is, not_under}
use Rattle.quotients.specs.Steps.{floor, ceil, round_ties_even, max, as_u32, quotient, floor_u32, ceil_u32, ceil_as_u32, round_u32, or_zero}
use Rattle.quotients.proofs.Sides.{alike, up_same, up_le, up_zero, closest-le, closest_zero}

-- ---- a whole number that is not negative, as an f64 and back
back : (w : ℕ) → w < 2 ^ 32 → as_u32 (round binary64 false w 1) ≡ w
back w h = unfold of_int in (unsigned_back binary64 32 w (unfold in_float in le→leb w (2 ^ 53) (le_of_lt (lt_of_lt_of_le h (lit≤ tt)))) h).1

max_of : (x : Float) (w : ℕ) → HasValue x false w 1 → max x zero64 ≡ x
unfolding max lt is_nan
max_of nan w v = absurd v
max_of (inf s) w v = absurd v
max_of (fin true m e) w v = absurd (true≢false v.0)
max_of (fin false m e) w v = ap (λ (t : Bool). cond t zero64 (fin false m e)) (not_under (m * up e) (down e))

max_back : (w : ℕ) → w < 2 ^ 32 → as_u32 (max (round binary64 false w 1) zero64) ≡ w
max_back w h = ap as_u32 (max_of (round binary64 false w 1) w (round_whole binary64 false w (le_of_lt (lt_of_lt_of_le h (lit≤ tt))))) ∙ back w h

-- ---- a fraction up to 2 ^ 31 is no infinity
finite_between : (z : Float) → T (le zero64 z) → T (le z (fin false 1 (pos 31))) → T (finite z)
unfolding le
finite_between nan h k = h
finite_between (inf true) h k = h
finite_between (inf false) h k = k
finite_between (fin s m e) h k = tt

largest : round binary64 false (2 ^ 31) 1 ≡ fin false 1 (pos 31)
unfolding round
largest = refl

fraction_finite : (a b : ℕ) → a ≤ 2 ^ 31 → 0 < b → T (finite (round binary64 false a b))
fraction_finite a b A B =
    finite_between (round binary64 false a b)
    (subst (λ (x : Float). T (le x (round binary64 false a b))) (zero_is false) (round_mono binary64 0 1 a b (lit< tt) B (le_trans (le_of_eq (zero-mul b)) zero-le)))
    (subst (λ (x : Float). T (le (round binary64 false a b) x)) largest (round_mono binary64 a b (2 ^ 31) 1 B (lit< tt) (le_trans (le_of_eq (mul-one a)) (le_trans A (le-mul_of_pos_right (2 ^ 31) B)))))

-- ---- the steps on a value n / u
floor_of : (x : Float) (n u : ℕ) → 0 < u → HasValue x false n u → floor x ≡ round binary64 false (n / u) 1
unfolding floor
floor_of nan n u U v = absurd v
floor_of (inf s) n u U v = absurd v
floor_of (fin true m e) n u U v = absurd (true≢false v.0)
floor_of (fin false m e) n u U v = ap (λ (w : ℕ). round binary64 false w 1) (div_same (m * up e) (down e) n u (down_pos e) U v.1)

ceil_of : (x : Float) (n u : ℕ) → 0 < u → HasValue x false n u → ceil x ≡ round binary64 false (rounded_up n u) 1
unfolding ceil
ceil_of nan n u U v = absurd v
ceil_of (inf s) n u U v = absurd v
ceil_of (fin true m e) n u U v = absurd (true≢false v.0)
ceil_of (fin false m e) n u U v = ap (λ (w : ℕ). round binary64 false w 1) (up_same (m * up e) (down e) n u (down_pos e) U v.1)

nearest_of : (x : Float) (n u : ℕ) → 0 < u → HasValue x false n u → round_ties_even x ≡ round binary64 false (closest n u) 1
unfolding round_ties_even
nearest_of nan n u U v = absurd v
nearest_of (inf s) n u U v = absurd v
nearest_of (fin true m e) n u U v = absurd (true≢false v.0)
nearest_of (fin false m e) n u U v = ap (λ (w : ℕ). round binary64 false w 1) (closest_same (m * up e) (down e) n u (down_pos e) U v.1)

-- ---- not above zero: NaN, or a negative sign
minus : Float → Bool
minus nan = true
minus (inf s) = s
minus (fin s m e) = s

minus_odd : (d q k l : ℕ) → minus (odd d true q k l) ≡ true
unfolding minus odd
minus_odd d zero k l = refl
minus_odd d (suc q) k l = refl

minus_round : (a b : ℕ) → minus (round binary64 true a b) ≡ true
unfolding minus round units
minus_round a b =
    let n = a * 2 ^ low binary64 in
    let k = size (n / b) - prec binary64 in
    let c = b * 2 ^ k in
    let q = nearest (n / c) (compare (n % c * 2) c) in
    go (ltb (q * 2 ^ k) (2 ^ (low binary64 + suc (emax binary64)))) (odd (suc (prec binary64)) true q k (low binary64)) (minus_odd (suc (prec binary64)) q k (low binary64))
  where
    go : (t : Bool) (x : Float) → minus x ≡ true → minus (cond t x (inf true)) ≡ true
    go true x h = h
    go false x h = refl

minus_div : (x y : Float) (b : ℕ) → minus x ≡ true → HasValue y false b 1 → minus (div binary64 x y) ≡ true
unfolding minus div
minus_div x nan b h v = absurd v
minus_div x (inf t) b h v = absurd v
minus_div x (fin true n g) b h v = absurd (true≢false v.0)
minus_div nan (fin false n g) b h v = refl
minus_div (inf true) (fin false n g) b h v = refl
minus_div (inf false) (fin false n g) b h v = absurd (true≢false (sym h))
minus_div (fin false m e) (fin false n g) b h v = absurd (true≢false (sym h))
minus_div (fin true m e) (fin false n g) b h v = go (eqb n 0) (eqb m 0) (round binary64 true (m * up e * down g) (n * up g * down e)) (minus_round (m * up e * down g) (n * up g * down e))
  where
    go : (s t : Bool) (x : Float) → minus x ≡ true → minus (cond s (cond t nan (inf true)) x) ≡ true
    go true true x h = refl
    go true false x h = refl
    go false t x h = h

minus_floor : (x : Float) → minus x ≡ true → minus (floor x) ≡ true
unfolding floor minus
minus_floor nan h = h
minus_floor (inf s) h = h
minus_floor (fin true m e) h = minus_round (rounded_up (m * up e) (down e)) 1
minus_floor (fin false m e) h = absurd (true≢false (sym h))

minus_ceil : (x : Float) → minus x ≡ true → minus (ceil x) ≡ true
unfolding ceil minus
minus_ceil nan h = h
minus_ceil (inf s) h = h
minus_ceil (fin true m e) h = minus_round (m * up e / down e) 1
minus_ceil (fin false m e) h = absurd (true≢false (sym h))

minus_nearest : (x : Float) → minus x ≡ true → minus (round_ties_even x) ≡ true
unfolding round_ties_even minus
minus_nearest nan h = h
minus_nearest (inf s) h = h
minus_nearest (fin true m e) h = minus_round (closest (m * up e) (down e)) 1
minus_nearest (fin false m e) h = absurd (true≢false (sym h))

minus_zero : (x : Float) → minus x ≡ true → as_u32 x ≡ 0
unfolding minus to_unsigned
minus_zero nan h = refl
minus_zero (inf true) h = refl
minus_zero (fin true m e) h = refl
minus_zero (inf false) h = absurd (true≢false (sym h))
minus_zero (fin false m e) h = absurd (true≢false (sym h))

zero_zero : as_u32 zero64 ≡ 0
unfolding to_unsigned
zero_zero = refl

minus_max : (x : Float) → minus x ≡ true → as_u32 (max x zero64) ≡ 0
unfolding max
minus_max x h = go (is_nan x) (lt x zero64)
  where
    go : (s t : Bool) → as_u32 (cond s zero64 (cond t zero64 x)) ≡ 0
    go true t = zero_zero
    go false true = zero_zero
    go false false = minus_zero x h

under_32 : (w a : ℕ) → w ≤ a → a ≤ 2 ^ 31 → w < 2 ^ 32
under_32 w a h k = omega arith

-- ---- the laws
abbrev pub Site : ℤ → ℕ → Type 0
Site i b =
    (floor_u32 (quotient i (pos b)) ≡ or_zero i / b)
    × (ceil_u32 (quotient i (pos b)) ≡ rounded_up (or_zero i) b)
    × (ceil_as_u32 (quotient i (pos b)) ≡ rounded_up (or_zero i) b)
    × (round_u32 (quotient i (pos b)) ≡ closest (or_zero i) b)

module _ (b : ℕ) (B : 0 < b) (b-le : b ≤ 2 ^ 20) where
  b_53 : b ≤ 2 ^ 53
  b_53 = le_trans b-le (lit≤ tt)

  not_negative : (a : ℕ) → a ≤ 2 ^ 31 → Site (pos a) b
  unfolding or_zero
  not_negative a A =
      let x = quotient (pos a) (pos b) in
      let n = grid binary64 a b in
      let u = 2 ^ low binary64 in
      let U : 0 < u = pow_pos (low binary64) in
      let v' : HasValue (round binary64 false a b) false n u = round_val binary64 a b (round_under binary64 a b (fraction_finite a b A B)) in
      let v : HasValue x false n u = subst (λ (y : Float). HasValue y false n u) (sym (ratio-is a b (le_trans A (lit≤ tt)) B b_53)) v' in
      let s = alike a b n u A B b-le U v' in
      let f = floor_of x n u U v ∙ ap (λ (w : ℕ). round binary64 false w 1) s.0 in
      let c = ceil_of x n u U v ∙ ap (λ (w : ℕ). round binary64 false w 1) s.1 in
      let r = nearest_of x n u U v ∙ ap (λ (w : ℕ). round binary64 false w 1) s.2 in (
        ap (λ (y : Float). as_u32 (max y zero64)) f ∙ max_back (a / b) (under_32 (a / b) a (div-le_self a b) A),
        ap (λ (y : Float). as_u32 (max y zero64)) c ∙ max_back (rounded_up a b) (under_32 (rounded_up a b) a (up_le a b B) A),
        ap as_u32 c ∙ back (rounded_up a b) (under_32 (rounded_up a b) a (up_le a b B) A),
        ap (λ (y : Float). as_u32 (max y zero64)) r ∙ max_back (closest a b) (under_32 (closest a b) a (closest-le a b B) A),
      )

  negative : (n : ℕ) → Site (negsuc n) b
  unfolding or_zero of_int
  negative n =
      let x = quotient (negsuc n) (pos b) in
      let h : minus x ≡ true = minus_div (of_int binary64 (negsuc n)) (of_int binary64 (pos b)) b (minus_round (suc n) 1) (of-int b b_53) in (
        minus_max (floor x) (minus_floor x h) ∙ sym (zero-div b),
        minus_max (ceil x) (minus_ceil x h) ∙ sym (up_zero b B),
        minus_zero (ceil x) (minus_ceil x h) ∙ sym (up_zero b B),
        minus_max (round_ties_even x) (minus_nearest x h) ∙ sym (closest_zero b B),
      )

  pub site : (i : ℤ) → or_zero i ≤ 2 ^ 31 → Site i b
  unfolding or_zero
  site (pos a) h = not_negative a h
  site (negsuc n) h = negative n
