-- Facts of `lib.Ieee`'s floats that the proofs of this crate cite. Assumes nothing.
use mathlib.Core.Path.{◌≡◌, refl, sym, ap, ◌∙◌, subst}
use Prim.Native.Nat.{ℕ, suc, ◌+◌, ◌-◌, ◌*◌, ◌/◌, ◌%◌, ◌^◌, ◌≤◌, ◌<◌, zero-le, compare, Ordering}
use native.Mathlib.Nat.{div-one, mod-one, mul_left_comm, mul-le-mul, mul-lt-mul_of_pos_right, mul-pos, le-add_left, mul-le-mul_right, le_trans, le_of_eq, le_of_lt, lt_of_lt_of_le, lt_of_le_of_lt, not-le_of_lt, add-mul, mul-one, one-mul, mul_assoc, div-add-mod', zero-mul}
use native.Mathlib.Numerals.{add-one}
use native.Mathlib.Omega.{arith}
use mathlib.Core.Bool.{Bool, true, false, not, ◌&&◌, ◌||◌, true≢false}
use lib.IntN.{ℤ, pos}
use lib.Dec.{T, is_le, compare_is_eq, ltb, eqb, leb→le, nleb→lt, ltb→lt, lt→ltb, nltb→le, eqb→eq, eqb_refl, lit≤, lit<}
use lib.Arith.{lt_of_le-ne}
use lib.Ieee.{Float, nan, inf, fin, binary64, up, down, nearest, round, mul, lt, le, of_int}
use lib.Ieee.Fits.{down_pos, and_l}
use lib.Ieee.Exact.{HasValue}
use lib.Ieee.Back.{round_whole}
use lib.Ieee.Nearest.{closest, closest_mono}
use lib.Ieee.Order.{transfer, round_mono}
use lib.Ieee.Scale.{round_same}
use Rattle.rounding.specs.Round.{round_even, zero64}

-- ---- what `compare` says, and so which of three numbers `nearest` picks
abbrev pub Cmp : Ordering → ℕ → ℕ → Type 0
Cmp Ordering.lt a b = a < b
Cmp Ordering.eq a b = a ≡ b
Cmp Ordering.gt a b = b < a

pub cmp : (a b : ℕ) → Cmp (compare a b) a b
cmp a b = go (compare a b) (leb→le a b) (nleb→lt a b) (eqb→eq a b) (λ (e : a ≡ b). subst (λ (x : ℕ). T (eqb a x)) e (eqb_refl a))
  where
    go : (o : Ordering) → (T (is_le o) → a ≤ b) → (T (not (is_le o)) → b < a) → (T (compare_is_eq o) → a ≡ b) → (a ≡ b → T (compare_is_eq o)) → Cmp o a b
    go Ordering.lt h k e n = lt_of_le-ne (h tt) n
    go Ordering.eq h k e n = e tt
    go Ordering.gt h k e n = k tt

picks : (t : ℕ) (o : Ordering) (a b : ℕ) → Cmp o a b → (a < b → nearest t o ≡ t) × (b < a → nearest t o ≡ suc t) × (a ≡ b → nearest t o ≡ t + t % 2)
picks t Ordering.lt a b h = ((λ k. refl), (λ k. omega arith), (λ k. omega arith))
picks t Ordering.eq a b h = ((λ k. omega arith), (λ k. omega arith), (λ k. refl))
picks t Ordering.gt a b h = ((λ k. omega arith), (λ k. refl), (λ k. omega arith))

-- n / d against the half above its whole part t
halves : (n d r t p : ℕ) → t * d + r ≡ n → p ≡ (2 * t + 1) * d → (n * 2 < p → r * 2 < d) × (p < n * 2 → d < r * 2) × (n * 2 ≡ p → r * 2 ≡ d)
halves n d r t p e q =
    let z : (2 * t + 1) * d ≡ 2 * (t * d) + d = add-mul (2 * t) 1 d ∙ ap (λ (x : ℕ). x + 1 * d) (mul_assoc 2 t d) ∙ ap (λ (x : ℕ). 2 * (t * d) + x) (one-mul d) in
    ((λ h. omega arith), (λ h. omega arith), (λ h. omega arith))

-- where n / d lies against that half decides what it rounds to
pub closest_by : (n d : ℕ)
    → (n * 2 < (2 * (n / d) + 1) * d → closest n d ≡ n / d) × ((2 * (n / d) + 1) * d < n * 2 → closest n d ≡ n / d + 1) × (n * 2 ≡ (2 * (n / d) + 1) * d → closest n d ≡ n / d + n / d % 2)
closest_by n d =
    let h = halves n d (n % d) (n / d) ((2 * (n / d) + 1) * d) (div-add-mod' n d) refl in
    let k = picks (n / d) (compare (n % d * 2) d) (n % d * 2) d (cmp (n % d * 2) d) in
    ((λ a. k.0 (h.0 a)), (λ a. k.1 (h.1 a) ∙ sym (add-one (n / d))), (λ a. k.2 (h.2 a)))

-- ---- comparisons of values that are not negative are comparisons of any fractions that they equal
pub ltb_same : (p q r s : ℕ) → (q ≤ p → s ≤ r) → (s ≤ r → q ≤ p) → ltb p q ≡ ltb r s
ltb_same p q r s f g = go (ltb p q) (ltb r s) (ltb→lt p q) (nltb→le p q) (ltb→lt r s) (nltb→le r s)
  where
    go : (x y : Bool) → (T x → p < q) → (T (not x) → q ≤ p) → (T y → r < s) → (T (not y) → s ≤ r) → x ≡ y
    go true true a b c d = refl
    go true false a b c d = absurd (not-le_of_lt (a tt) (g (d tt)))
    go false true a b c d = absurd (not-le_of_lt (c tt) (f (b tt)))
    go false false a b c d = refl

pub lt-value : (x y : Float) (a c b d : ℕ) → 0 < c → 0 < d → HasValue x false a c → HasValue y false b d → lt x y ≡ ltb (a * d) (b * c)
unfolding lt
lt-value (fin true m e) y a c b d C D h k = absurd (true≢false h.0)
lt-value (fin false m e) (fin true n g) a c b d C D h k = absurd (true≢false k.0)
lt-value (fin false m e) (fin false n g) a c b d C D h k =
    ltb_same (m * up e * down g) (n * up g * down e) (a * d) (b * c)
    (transfer b a d c (n * up g) (m * up e) (down g) (down e) (down_pos g) (down_pos e) (sym k.1) (sym h.1))
    (transfer (n * up g) (m * up e) (down g) (down e) b a d c D C k.1 h.1)
lt-value nan y a c b d C D h k = absurd h
lt-value (inf s) y a c b d C D h k = absurd h
lt-value (fin false m e) nan a c b d C D h k = absurd k
lt-value (fin false m e) (inf s) a c b d C D h k = absurd k

-- ---- a whole number as an f64
pub of-int : (n : ℕ) → n ≤ 2 ^ 53 → HasValue (of_int binary64 (pos n)) false n 1
unfolding of_int
of-int n h = round_whole binary64 false n h

-- ---- what a value from -0 up gives
-- what `le` says of two numbers that are not negative
says-le : (a b : ℕ) → T (ltb a b || (eqb a b && true)) → a ≤ b
says-le a b t = go (ltb a b) (eqb a b) (ltb→lt a b) (eqb→eq a b) t
  where
    go : (x y : Bool) → (T x → a < b) → (T y → a ≡ b) → T (x || (y && true)) → a ≤ b
    go true y f g t = le_of_lt (f tt)
    go false true f g t = le_of_eq (g tt)
    go false false f g t = absurd t

-- a negative sign leaves only a zero
pub minus_zero : (m : ℕ) (e : ℤ) → T (le zero64 (fin true m e)) → m * up e * 1 ≡ 0
unfolding le
minus_zero m e t = go (eqb (0 * 1 * down e) (m * up e * 1)) (eqb→eq (0 * 1 * down e) (m * up e * 1)) (zero-mul (down e)) (and_l (eqb (0 * 1 * down e) (m * up e * 1)) (eqb (0 * 1 * down e) 0) t)
  where
    go : (x : Bool) → (T x → 0 * 1 * down e ≡ m * up e * 1) → 0 * 1 * down e ≡ 0 → T x → m * up e * 1 ≡ 0
    go x f z t = sym (f t) ∙ z

some : (a b d : ℕ) → 0 < d → 0 < a + (b + 1) * d
some a b d D = lt_of_lt_of_le D (le_trans (le_of_eq (sym (one-mul d))) (le_trans (mul-le-mul_right d (le-add_left 1 b)) (le-add_left ((b + 1) * d) a)))

-- ---- a value from -0 up to one that is n
pub le-value : (x y : Float) (a c b d : ℕ) → 0 < c → 0 < d → HasValue x false a c → HasValue y false b d → T (le x y) → a * d ≤ b * c
unfolding le
le-value nan y a c b d C D h k t = absurd h
le-value (inf s) y a c b d C D h k t = absurd h
le-value (fin true m e) y a c b d C D h k t = absurd (true≢false h.0)
le-value (fin false m e) nan a c b d C D h k t = absurd k
le-value (fin false m e) (inf s) a c b d C D h k t = absurd k
le-value (fin false m e) (fin true n g) a c b d C D h k t = absurd (true≢false k.0)
le-value (fin false m e) (fin false n g) a c b d C D h k t =
    transfer a b c d (m * up e) (n * up g) (down e) (down g) (down_pos e) (down_pos g) (sym h.1) (sym k.1) (says-le (m * up e * down g) (n * up g * down e) t)

closest-one : (n : ℕ) → closest n 1 ≡ n
closest-one n = ap (λ (q : ℕ). nearest q (compare (n % 1 * 2) 1)) (div-one n) ∙ ap (λ (r : ℕ). nearest n (compare (r * 2) 1)) (mod-one n)

no_infinity : (y : Float) (n : ℕ) → HasValue y false n 1 → T (le (inf false) y) → ⊥
unfolding le
no_infinity nan n h t = h
no_infinity (inf s) n h t = h
no_infinity (fin s m e) n h t = t

abbrev pub Within : Float → ℕ → Type 0
Within z n = T (le zero64 z) × T (lt z (fin false 1 (pos 31))) × (round_even z ≤ n)

within : (z y : Float) (n : ℕ) → n < 2 ^ 31 → HasValue y false n 1 → T (le zero64 z) → T (le z y) → Within z n
unfolding lt round_even
within nan y n N v h k = absurd (unfold le in h)
within (inf true) y n N v h k = absurd (unfold le in h)
within (inf false) y n N v h k = absurd (no_infinity y n v k)
within (fin true m e) y n N v h k = (h, lt→ltb 0 (m * up e * 1 + 2 ^ 31 * down e) (some (m * up e * 1) (2 ^ 31 - 1) (down e) (down_pos e)), zero-le)
within (fin false m e) y n N v h k =
    let l : m * up e * 1 ≤ n * down e = le-value (fin false m e) y (m * up e) (down e) n 1 (down_pos e) (lit< tt) (refl, refl) v k in (
      h,
      lt→ltb (m * up e * 1) (2 ^ 31 * down e) (lt_of_le_of_lt l (mul-lt-mul_of_pos_right N (down_pos e))),
      le_trans (closest_mono (m * up e) (down e) n 1 (down_pos e) (lit< tt) l) (le_of_eq (closest-one n)),
    )

-- ---- a share of n: the product of a number from -0 to 1 with n
pub zero_is : (s : Bool) → round binary64 s 0 1 ≡ fin s 0 (pos 0)
unfolding round
zero_is s = refl

share_le : (a b n q g : ℕ) → a * 1 ≤ 1 * b → q * 1 ≡ n * g → a * q ≤ n * (b * g)
share_le a b n q g h e =
    le_trans (mul-le-mul (le_trans (le_of_eq (sym (mul-one a))) (le_trans h (le_of_eq (one-mul b)))) (le_of_eq (sym (mul-one q) ∙ e)))
    (le_of_eq (mul_left_comm b n g))

no_size : (a q : ℕ) → a * 1 ≡ 0 → a * q * 1 ≡ 0
no_size a q z = ap (λ (x : ℕ). x * q * 1) (sym (mul-one a) ∙ z) ∙ ap (λ (x : ℕ). x * 1) (zero-mul q)

minus_within : (n : ℕ) → Within (fin true 0 (pos 0)) n
unfolding le lt round_even
minus_within n = (tt, tt, zero-le)

pub rounded_within : (a b n : ℕ) → 0 < b → n < 2 ^ 31 → a ≤ n * b → Within (round binary64 false a b) n
rounded_within a b n B N h =
    within (round binary64 false a b) (round binary64 false n 1) n N (round_whole binary64 false n (le_of_lt (lt_of_lt_of_le N (lit≤ tt))))
    (subst (λ (z : Float). T (le z (round binary64 false a b))) (zero_is false) (round_mono binary64 0 1 a b (lit< tt) B (le_trans (le_of_eq (zero-mul b)) zero-le)))
    (round_mono binary64 a b n 1 B (lit< tt) (le_trans (le_of_eq (mul-one a)) h))

share : (acc y : Float) (n : ℕ) → n < 2 ^ 31 → HasValue y false n 1 → T (le zero64 acc) → T (le acc (fin false 1 (pos 0))) → Within (mul binary64 acc y) n
unfolding mul
share nan y n N v h k = absurd (unfold le in h)
share (inf true) y n N v h k = absurd (unfold le in h)
share (inf false) y n N v h k = absurd (unfold le in k)
share (fin s m e) nan n N v h k = absurd v
share (fin s m e) (inf t) n N v h k = absurd v
share (fin s m e) (fin true q g) n N v h k = absurd (true≢false v.0)
share (fin true m e) (fin false q g) n N v h k =
    let z : round binary64 true (m * up e * (q * up g)) (down e * down g) ≡ fin true 0 (pos 0) =
    round_same binary64 true (m * up e * (q * up g)) (down e * down g) 0 1 (mul-pos (down_pos e) (down_pos g)) (lit< tt) (no_size (m * up e) (q * up g) (minus_zero m e h) ∙ sym (zero-mul (down e * down g))) ∙ zero_is true in
    subst (λ (x : Float). Within x n) (sym z) (minus_within n)
share (fin false m e) (fin false q g) n N v h k =
    rounded_within (m * up e * (q * up g)) (down e * down g) n (mul-pos (down_pos e) (down_pos g)) N
    (share_le (m * up e) (down e) n (q * up g) (down g) (le-value (fin false m e) (fin false 1 (pos 0)) (m * up e) (down e) 1 1 (down_pos e) (lit< tt) (refl, refl) (refl, refl) k) v.1)

pub product_within : (acc : Float) (n : ℕ) → n < 2 ^ 31 → T (le zero64 acc) → T (le acc (fin false 1 (pos 0))) → Within (mul binary64 acc (of_int binary64 (pos n))) n
product_within acc n N h k = share acc (of_int binary64 (pos n)) n N (of-int n (le_of_lt (lt_of_lt_of_le N (lit≤ tt)))) h k
