-- The steps are what they are called: of each finite f64 the floor, the ceiling and the nearest have exactly the size that their
-- definitions name, `round` changing nothing. The literals of closest.rs, and values worked out. Assumes nothing.
use mathlib.Core.Path.{◌≡◌, refl, sym, ap, ◌∙◌, subst}
use Prim.Native.Nat.{ℕ, zero, suc, ◌+◌, ◌*◌, ◌/◌, ◌%◌, ◌^◌, ◌≤◌, ◌<◌}
use native.Mathlib.Nat.{mul-one, mul_assoc, div-one, div-le_self, le_trans, le_of_eq, le_of_lt, lt_of_lt_of_le, lt_of_le_of_lt, zero-mul}
use mathlib.Core.Bool.{Bool, true, false, cond, ◌&&◌}
use lib.IntN.{ℤ, pos, negsuc}
use lib.Dec.{T, ltb, leb, eqb, ltb→lt, lit<, lit≤}
use lib.Pow.{pow-add, shl_lt}
use lib.Ieee.{Float, nan, inf, fin, binary64, low, emax, up, down, round, lt, is_nan, of_bits, of_int, to_unsigned, fits}
use lib.Ieee.Fits.{and_l, and_r, down_pos}
use lib.Ieee.Exact.{HasValue, round_exact}
use lib.Ieee.Back.{round_whole}
use lib.Ieee.Nearest.{closest}
use Rattle.rounding.specs.Round.{zero64}
use Rattle.rounding.specs.Quotient.{rounded_up}
use Rattle.quotients.specs.Steps.{floor, ceil, round_ties_even, max, abs, as_u32}
use Rattle.quotients.proofs.Sides.{up_le, closest-le, closest-one, up_whole}

-- ---- a whole number that a finite f64's step names is an f64
digits : (s : Bool) (m : ℕ) (e : ℤ) → T (fits binary64 (fin s m e)) → m < 2 ^ 53
unfolding fits
digits s zero e h = lit< tt
digits s (suc m) e h =
    ltb→lt (suc m) (2 ^ 53)
    (and_r (eqb (suc m % 2) 1) (ltb (suc m) (2 ^ 53))
    (and_l (eqb (suc m % 2) 1 && ltb (suc m) (2 ^ 53)) (leb (down e) (2 ^ low binary64))
    (and_l (eqb (suc m % 2) 1 && ltb (suc m) (2 ^ 53) && leb (down e) (2 ^ low binary64)) (ltb (suc m * up e) (2 ^ suc (emax binary64) * down e)) h)))

reach : (s : Bool) (m k : ℕ) → T (fits binary64 (fin s m (pos k))) → m * 2 ^ k < 2 ^ 1024
unfolding fits
reach s zero k h = lt_of_le_of_lt (le_of_eq (zero-mul (2 ^ k))) (lit< tt)
reach s (suc m) k h =
    lt_of_lt_of_le
    (ltb→lt (suc m * 2 ^ k) (2 ^ 1024 * 1)
    (and_r (eqb (suc m % 2) 1 && ltb (suc m) (2 ^ 53) && leb (down (pos k)) (2 ^ low binary64)) (ltb (suc m * 2 ^ k) (2 ^ 1024 * 1)) h))
    (le_of_eq (mul-one (2 ^ 1024)))

whole_exact : (s : Bool) (m k : ℕ) → m < 2 ^ 53 → m * 2 ^ k < 2 ^ 1024 → HasValue (round binary64 s (m * 2 ^ k) 1) s (m * 2 ^ k) 1
whole_exact s m k h r =
    let e : m * 2 ^ k * 2 ^ 1074 ≡ m * 2 ^ (k + 1074) = mul_assoc m (2 ^ k) (2 ^ 1074) ∙ ap (λ (x : ℕ). m * x) (sym (pow-add 2 k 1074)) in
    round_exact binary64 s (m * 2 ^ k) 1 m (k + 1074) (lit< tt) h
    (lt_of_le_of_lt (le_of_eq (sym e)) (lt_of_lt_of_le (shl_lt 1024 1074 r) (lit≤ tt)))
    (e ∙ sym (mul-one (m * 2 ^ (k + 1074))))

-- w is m * up e where that is whole, and at most that where it has a fraction
named : (s : Bool) (m : ℕ) (e : ℤ) (w : ℕ) → T (fits binary64 (fin s m e)) → (down e ≡ 1 → w ≡ m * up e) → w ≤ m * up e → HasValue (round binary64 s w 1) s w 1
named s m (pos k) w h one l = subst (λ (x : ℕ). HasValue (round binary64 s x 1) s x 1) (sym (one refl)) (whole_exact s m k (digits s m (pos k) h) (reach s m k h))
named s m (negsuc k) w h one l = round_whole binary64 s w (le_trans l (le_trans (le_of_eq (mul-one m)) (le_of_lt (digits s m (negsuc k) h))))

div_of : (n d : ℕ) → d ≡ 1 → n / d ≡ n
div_of n d e = ap (λ (x : ℕ). n / x) e ∙ div-one n

up_of : (n d : ℕ) → d ≡ 1 → rounded_up n d ≡ n
up_of n d e = ap (λ (x : ℕ). rounded_up n x) e ∙ up_whole n 1 n (lit< tt) (sym (mul-one n))

closest_of : (n d : ℕ) → d ≡ 1 → closest n d ≡ n
closest_of n d e = ap (λ (x : ℕ). closest n x) e ∙ closest-one n

pub floor_exact : (s : Bool) (m : ℕ) (e : ℤ) → T (fits binary64 (fin s m e)) → let w = cond s (rounded_up (m * up e) (down e)) (m * up e / down e) in HasValue (floor (fin s m e)) s w 1
unfolding floor
floor_exact true m e h = named true m e (rounded_up (m * up e) (down e)) h (up_of (m * up e) (down e)) (up_le (m * up e) (down e) (down_pos e))
floor_exact false m e h = named false m e (m * up e / down e) h (div_of (m * up e) (down e)) (div-le_self (m * up e) (down e))

pub ceil_exact : (s : Bool) (m : ℕ) (e : ℤ) → T (fits binary64 (fin s m e)) → let w = cond s (m * up e / down e) (rounded_up (m * up e) (down e)) in HasValue (ceil (fin s m e)) s w 1
unfolding ceil
ceil_exact false m e h = named false m e (rounded_up (m * up e) (down e)) h (up_of (m * up e) (down e)) (up_le (m * up e) (down e) (down_pos e))
ceil_exact true m e h = named true m e (m * up e / down e) h (div_of (m * up e) (down e)) (div-le_self (m * up e) (down e))

pub nearest_exact : (s : Bool) (m : ℕ) (e : ℤ) → T (fits binary64 (fin s m e)) → HasValue (round_ties_even (fin s m e)) s (closest (m * up e) (down e)) 1
unfolding round_ties_even
nearest_exact s m e h = named s m e (closest (m * up e) (down e)) h (closest_of (m * up e) (down e)) (closest-le (m * up e) (down e) (down_pos e))

-- ---- the literals 10.0, 20.0, 30.0, 40.0, 50.0, 60.0 by their bits
literals
    : (of_bits binary64 0x4024_0000_0000_0000 ≡ of_int binary64 (pos 10))
    × (of_bits binary64 0x4034_0000_0000_0000 ≡ of_int binary64 (pos 20))
    × (of_bits binary64 0x403e_0000_0000_0000 ≡ of_int binary64 (pos 30))
    × (of_bits binary64 0x4044_0000_0000_0000 ≡ of_int binary64 (pos 40))
    × (of_bits binary64 0x4049_0000_0000_0000 ≡ of_int binary64 (pos 50))
    × (of_bits binary64 0x404e_0000_0000_0000 ≡ of_int binary64 (pos 60))
unfolding of_bits of_int
literals = (refl, refl, refl, refl, refl, refl)

-- ---- worked out: 2.5, 3.5, -2.5, -0.5, -0.0, 2 ^ 60, and NaN and an infinity
abbrev half : Bool → ℕ → Float
half s k = fin s k (negsuc 0)

vectors
    : (floor (half false 5) ≡ fin false 1 (pos 1)) × (ceil (half false 5) ≡ fin false 3 (pos 0)) × (round_ties_even (half false 5) ≡ fin false 1 (pos 1))
    × (round_ties_even (half false 7) ≡ fin false 1 (pos 2))
    × (floor (half true 5) ≡ fin true 3 (pos 0)) × (ceil (half true 5) ≡ fin true 1 (pos 1)) × (round_ties_even (half true 5) ≡ fin true 1 (pos 1))
    × (floor (half true 1) ≡ fin true 1 (pos 0)) × (ceil (half true 1) ≡ fin true 0 (pos 0)) × (round_ties_even (half true 1) ≡ fin true 0 (pos 0))
    × (floor (fin true 0 (pos 0)) ≡ fin true 0 (pos 0)) × (floor (fin false 1 (pos 60)) ≡ fin false 1 (pos 60))
    × (max nan zero64 ≡ zero64) × (max (half true 5) zero64 ≡ zero64) × (max (half false 5) zero64 ≡ half false 5)
    × (as_u32 (inf false) ≡ 4_294_967_295) × (as_u32 (half true 5) ≡ 0) × (abs (half true 5) ≡ half false 5)
unfolding floor ceil round_ties_even rounded_up max abs to_unsigned round lt is_nan
vectors = (refl, refl, refl, refl, refl, refl, refl, refl, refl, refl, refl, refl, refl, refl, refl, refl, refl, refl)
