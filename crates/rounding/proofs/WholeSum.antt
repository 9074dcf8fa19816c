-- x + 2 ^ 52 rounds x to a whole number: from 2 ^ 52 to 2 ^ 53 the f64s are the whole numbers, so that there `round` takes a
-- fraction to the nearest whole number, a half to even, and the bits count on from those of 2 ^ 52. Assumes nothing.
use mathlib.Core.Path.{◌≡◌, refl, sym, ap, ◌∙◌, subst}
use Prim.Native.Nat.{ℕ, suc, ◌+◌, ◌-◌, ◌*◌, ◌/◌, ◌%◌, ◌^◌, ◌≤◌, ◌<◌, zero-le, compare, Ordering}
use native.Mathlib.Nat.{zero-add, zero-mul, le-add_left, le_antisymm, le_trans, le_of_eq, lt_of_lt_of_le, lt_of_le_of_lt, lt_of_not-le, not-le_of_lt, suc-add, add_comm, mul-one, one-mul, mul_comm, mul_assoc, mul_right_comm, mul-pos, mul-le-mul_right, mul-lt-mul_of_pos_right, eq_of_mul-eq-mul_right, mul-div_cancel, le-div_iff_mul-le, div-lt_iff_lt-mul, add-mul-div_right, add-mul-mod_self_right}
use native.Mathlib.Omega.{arith}
use mathlib.Core.Bool.{Bool, true, false, not, cond, true≢false}
use lib.IntN.{ℤ, pos}
use lib.Dec.{T, ltb, ltb→lt, lit<}
use lib.Pow.{pow-add, pow_pos, pow_mono, shl_lt, shl-shr}
use borrow.Author.Tests.{lt-ltb}
use lib.Ieee.{Float, nan, inf, fin, Format, binary64, prec, emax, low, up, down, size, nearest, units, round, sum, add, of_bits, to_bits, is_nan, le, lt}
use lib.Ieee.Bits.{is_true}
use lib.Ieee.Digits.{size-lt, size-le}
use lib.Ieee.Fits.{core, round_is, down_pos, nearest-le}
use lib.Ieee.Exact.{HasValue, units_val}
use lib.Ieee.Nearest.{closest, closest_same}
use Rattle.rounding.specs.Round.{round_even, zero64}
use Rattle.rounding.proofs.Floats.{minus_zero}
use Rattle.rounding.proofs.Less.{lt_trans}

-- ---- `round` where the format's values are the whole numbers
size_at : (n j : ℕ) → 2 ^ j ≤ n → n < 2 ^ suc j → size n ≡ suc j
size_at n j l h = le_antisymm (size-le n (suc j) h) (lt_of_not-le (λ (g : size n ≤ j). not-le_of_lt (lt_of_lt_of_le (size-lt n) (pow_mono g)) l))

-- a / d is from 2 ^ j up and below 2 ^ (j + 1); so the same in units of 2 ^ -l
scaled_from : (a d j l : ℕ) → 2 ^ j * d ≤ a → 2 ^ (j + l) * d ≤ a * 2 ^ l
scaled_from a d j l h = le_trans (le_of_eq (ap (λ (x : ℕ). x * d) (pow-add 2 j l) ∙ mul_right_comm (2 ^ j) (2 ^ l) d)) (mul-le-mul_right (2 ^ l) h)

scaled_below : (a d j l : ℕ) → a < 2 ^ j * d → a * 2 ^ l < 2 ^ (j + l) * d
scaled_below a d j l h = lt_of_lt_of_le (mul-lt-mul_of_pos_right h (pow_pos l)) (le_of_eq (sym (ap (λ (x : ℕ). x * d) (pow-add 2 j l) ∙ mul_right_comm (2 ^ j) (2 ^ l) d)))

dropped : (j l p : ℕ) → p ≡ suc j → suc (j + l) - p ≡ l
dropped j l p e = omega arith

-- q units of 2 ^ -l, p being 2 ^ l
whole_value : (x : Float) (s : Bool) (q p : ℕ) → 0 < p → HasValue x s (q * p) p → HasValue x s q 1
whole_value nan s q p P v = v
whole_value (inf t) s q p P v = v
whole_value (fin t m e) s q p P v = (
  v.0,
  mul-one (m * up e) ∙ eq_of_mul-eq-mul_right p P (m * up e) (q * down e) (v.1 ∙ mul_right_comm q p (down e)),
)

pub in_binade : (f : Format) (s : Bool) (j a d : ℕ) → prec f ≡ suc j → 0 < d → 2 ^ j * d ≤ a → a < 2 ^ suc j * d → closest a d < 2 ^ suc (emax f)
    → HasValue (round f s a d) s (closest a d) 1
in_binade f s j a d p D from below fine =
    let l = low f in
    let n = a * 2 ^ l in
    let z : size (n / d) ≡ suc (j + l) =
    size_at (n / d) (j + l) ((le-div_iff_mul-le D).1 (scaled_from a d j l from))
    (subst (λ (x : ℕ). n / d < 2 ^ x) (suc-add j l) ((div-lt_iff_lt-mul D).1 (scaled_below a d (suc j) l below))) in
    let k : size (n / d) - prec f ≡ l = ap (λ (x : ℕ). x - prec f) z ∙ dropped j l (prec f) p in
    let c : closest n (d * 2 ^ l) ≡ closest a d =
    closest_same n (d * 2 ^ l) a d (mul-pos D (pow_pos l)) D (mul_assoc a (2 ^ l) d ∙ ap (λ (x : ℕ). a * x) (mul_comm (2 ^ l) d)) in
    let e : round f s a d ≡ units f s (closest a d) l = round_is f s a d ∙ ap (λ (x : ℕ). core f s n d x) k ∙ ap (λ (q : ℕ). units f s q l) c in
    whole_value (round f s a d) s (closest a d) (2 ^ l) (pow_pos l)
    (subst (λ (x : Float). HasValue x s (closest a d * 2 ^ l) (2 ^ l)) (sym e)
    (units_val f s (closest a d) l (subst (λ (x : ℕ). closest a d * 2 ^ l < 2 ^ x) (add_comm (suc (emax f)) l) (shl_lt (suc (emax f)) l fine))))

-- ---- the bits of such a whole number
cut : (m : ℕ) (e : ℤ) (q p : ℕ) → m * up e * 1 ≡ q * down e → m * up e * p / down e ≡ q * p
cut m e q p h = ap (λ (x : ℕ). x * p / down e) (sym (mul-one (m * up e)) ∙ h) ∙ ap (λ (x : ℕ). x / down e) (mul_right_comm q (down e) p) ∙ mul-div_cancel (q * p) (down_pos e)

fields : (b w c l q : ℕ) → c ≡ q * 2 ^ l → b ≡ l → 0 + b * w + c / 2 ^ b ≡ l * w + q
fields b w c l q e h =
    ap (λ (x : ℕ). 0 + x * w + c / 2 ^ x) h ∙ ap (λ (x : ℕ). 0 + l * w + x / 2 ^ l) e ∙ ap (λ (x : ℕ). 0 + l * w + x) (shl-shr q l) ∙ ap (λ (x : ℕ). x + q) (zero-add (l * w))

one_less : (p j : ℕ) → p ≡ suc j → p - 1 ≡ j
one_less p j e = omega arith

pub bits_in_binade : (f : Format) (j : ℕ) (x : Float) (q : ℕ) → prec f ≡ suc j → 2 ^ j ≤ q → q < 2 ^ suc j → HasValue x false q 1
    → T (not (is_nan x)) × (to_bits f x ≡ low f * 2 ^ j + q)
unfolding to_bits is_nan
bits_in_binade f j nan q p from below v = absurd v
bits_in_binade f j (inf t) q p from below v = absurd v
bits_in_binade f j (fin true m e) q p from below v = absurd (true≢false v.0)
bits_in_binade f j (fin false m e) q p from below v =
    let l = low f in
    let n = m * up e * 2 ^ l / down e in
    let c : n ≡ q * 2 ^ l = cut m e q (2 ^ l) v.1 in
    let z : size n ≡ suc (j + l) =
    ap size c
    ∙ size_at (q * 2 ^ l) (j + l) (le_trans (le_of_eq (pow-add 2 j l)) (mul-le-mul_right (2 ^ l) from))
    (subst (λ (x : ℕ). q * 2 ^ l < 2 ^ x) (suc-add j l) (shl_lt (suc j) l below)) in
    let k : size n - prec f ≡ l = ap (λ (x : ℕ). x - prec f) z ∙ dropped j l (prec f) p in
    (tt, fields (size n - prec f) (2 ^ (prec f - 1)) n l q c k ∙ ap (λ (x : ℕ). l * 2 ^ x + q) (one_less (prec f) j p))

-- ---- a fraction with an even number added
nearest-above : (w q : ℕ) (o : Ordering) → w % 2 ≡ 0 → nearest (q + w) o ≡ w + nearest q o
nearest-above w q Ordering.lt h = add_comm q w
nearest-above w q Ordering.eq h = omega arith
nearest-above w q Ordering.gt h = omega arith

closest-above : (w b d : ℕ) → 0 < d → w % 2 ≡ 0 → closest (b + w * d) d ≡ w + closest b d
closest-above w b d D h =
    ap (λ (x : ℕ). nearest x (compare ((b + w * d) % d * 2) d)) (add-mul-div_right b w D)
    ∙ ap (λ (x : ℕ). nearest (b / d + w) (compare (x * 2) d)) (add-mul-mod_self_right b w d)
    ∙ nearest-above w (b / d) (compare (b % d * 2) d) h

closest-le : (b d w : ℕ) → 0 < d → b < w * d → closest b d ≤ w
closest-le b d w D h = le_trans (nearest-le (b / d) (compare (b % d * 2) d)) ((div-lt_iff_lt-mul D).1 h)

-- below 2 ^ k a number rounds to at most 2 ^ k
pub rounded_le : (k : ℕ) (x : Float) → T (lt x (fin false 1 (pos k))) → round_even x ≤ 2 ^ k
unfolding round_even
rounded_le k nan h = absurd (unfold lt in h)
rounded_le k (inf true) h = zero-le
rounded_le k (inf false) h = absurd (unfold lt in h)
rounded_le k (fin true m e) h = zero-le
rounded_le k (fin false m e) h =
    let n = m * up e in
    let d = down e in
    let w : n * 1 < 1 * 2 ^ k * d = unfold lt in ltb→lt (n * 1) (1 * 2 ^ k * d) h in
    closest-le n d (2 ^ k) (down_pos e) (lt_of_le_of_lt (le_of_eq (sym (mul-one n))) (lt_of_lt_of_le w (le_of_eq (ap (λ (x : ℕ). x * d) (one-mul (2 ^ k))))))

-- ---- the sum of 2 ^ 52 and a fraction below 2 ^ 51
sum_below : (b d : ℕ) → b < 2 ^ 51 * d → b + 2 ^ 52 * d < 2 ^ 53 * d
sum_below b d h = omega arith

sum-at : (b d : ℕ) → 0 < d → b < 2 ^ 51 * d → HasValue (round binary64 false (b + 2 ^ 52 * d) d) false (2 ^ 52 + closest b d) 1
sum-at b d D h =
    let a = b + 2 ^ 52 * d in
    let c : closest a d ≡ 2 ^ 52 + closest b d = closest-above (2 ^ 52) b d D refl in
    let t : closest a d ≤ 2 ^ 53 = closest-le a d (2 ^ 53) D (sum_below b d h) in
    subst (λ (q : ℕ). HasValue (round binary64 false a d) false q 1) c
    (in_binade binary64 false 52 a d refl D (le-add_left (2 ^ 52 * d) b) (sum_below b d h) (lt_of_le_of_lt t (lit< tt)))

abbrev Value : Float → ℕ → Type 0
Value x r = HasValue (add binary64 x (fin false 1 (pos 52))) false (2 ^ 52 + r) 1

plain : (n d : ℕ) → round binary64 false (n * 1 + 1 * 2 ^ 52 * d) (d * 1) ≡ round binary64 false (n + 2 ^ 52 * d) d
plain n d =
    ap (λ (x : ℕ). round binary64 false (x + 1 * 2 ^ 52 * d) (d * 1)) (mul-one n)
    ∙ ap (λ (x : ℕ). round binary64 false (n + x * d) (d * 1)) (one-mul (2 ^ 52))
    ∙ ap (λ (x : ℕ). round binary64 false (n + 2 ^ 52 * d) x) (mul-one d)

-- -0 adds nothing
minus_sum : (a b c : ℕ) → a ≡ 0 → 0 < b → cond (ltb a b) (round binary64 false (b - a) c) (round binary64 (ltb b a) (a - b) c) ≡ round binary64 false (0 * 1 + b) c
minus_sum a b c z B =
    ap (λ (y : Bool). cond y (round binary64 false (b - a) c) (round binary64 (ltb b a) (a - b) c)) (lt-ltb a b (omega arith))
    ∙ ap (λ (x : ℕ). round binary64 false x c) (omega arith)

sum-value : (x : Float) → T (le zero64 x) → T (lt x (fin false 1 (pos 51))) → Value x (round_even x)
unfolding add sum round_even
sum-value nan h k = absurd (unfold le in h)
sum-value (inf true) h k = absurd (unfold le in h)
sum-value (inf false) h k = absurd (unfold lt in k)
sum-value (fin false m e) h k =
    let n = m * up e in
    let d = down e in
    let w : n < 2 ^ 51 * d = lt_of_le_of_lt (le_of_eq (sym (mul-one n))) (unfold lt in ltb→lt (n * 1) (2 ^ 51 * d) k) in
    subst (λ (y : Float). HasValue y false (2 ^ 52 + closest n d) 1) (sym (plain n d)) (sum-at n d (down_pos e) w)
sum-value (fin true m e) h k =
    let d = down e in
    let a = minus_sum (m * up e * 1) (1 * 2 ^ 52 * d) (d * 1) (minus_zero m e h) (mul-pos (lit< tt) (down_pos e)) ∙ plain 0 d in
    let z : closest 0 d ≡ 0 = closest_same 0 d 0 1 (down_pos e) (lit< tt) (sym (zero-mul d)) in
    let v = sum-at 0 d (down_pos e) (mul-pos (lit< tt) (down_pos e)) in
    subst (λ (y : Float). HasValue y false (2 ^ 52 + 0) 1) (sym a) (subst (λ (r : ℕ). HasValue (round binary64 false (0 + 2 ^ 52 * d) d) false (2 ^ 52 + r) 1) z v)

-- what `round_whole` takes off the bits of its sum
two_52 : of_bits binary64 0x4330_0000_0000_0000 ≡ fin false 1 (pos 52)
unfolding of_bits
two_52 = refl

abbrev pub Bits : Float → ℕ → Type 0
Bits y r = T (not (is_nan y)) × (to_bits binary64 y ≡ 0x4330_0000_0000_0000 + r)

in_52 : (r : ℕ) → r ≤ 2 ^ 51 → (2 ^ 52 ≤ 2 ^ 52 + r) × (2 ^ 52 + r < 2 ^ 53)
in_52 r h = (omega arith, omega arith)

pub whole_sum : (x : Float) → T (le zero64 x) → T (lt x (fin false 1 (pos 51))) → Bits (add binary64 x (of_bits binary64 0x4330_0000_0000_0000)) (round_even x)
whole_sum x h k =
    let v = sum-value x h k in
    let i = in_52 (round_even x) (rounded_le 51 x k) in
    let b = bits_in_binade binary64 52 (add binary64 x (fin false 1 (pos 52))) (2 ^ 52 + round_even x) refl i.0 i.1 v in
    subst (λ (y : Float). Bits (add binary64 x y) (round_even x)) (sym two_52) (b.0, b.1 ∙ omega arith)

-- what is below 2 ^ 31 is below 2 ^ 51
pub below_51 : (x : Float) → T (lt x (fin false 1 (pos 31))) → T (lt x (fin false 1 (pos 51)))
below_51 x h = subst T (sym (lt_trans x (fin false 1 (pos 31)) (fin false 1 (pos 51)) (is_true (lt x (fin false 1 (pos 31))) h) less)) tt
  where
    less : lt (fin false 1 (pos 31)) (fin false 1 (pos 51)) ≡ true
    less = unfold lt in refl
