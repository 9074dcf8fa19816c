-- `lt` is transitive, a NaN included, and nothing that is not below +0 is below a zero of either sign. Assumes nothing.
use mathlib.Core.Path.{◌≡◌, refl, sym, ap, ◌∙◌, subst}
use Prim.Native.Nat.{ℕ, ◌+◌, ◌*◌, ◌≤◌, ◌<◌, zero-le}
use mathlib.Core.Logic.{inl, inr}
use native.Mathlib.Nat.{le_refl, eq-zero-or-pos, lt_irrefl, le_of_lt, le_of_eq, le_trans, lt_of_lt_of_le, lt_of_le_of_lt, lt_of_mul-lt-mul_right, mul_right_comm, mul-le-mul_right, mul-lt-mul_of_pos_right, zero-mul, mul-pos, le-add_left, le-add_right}
use native.Mathlib.Omega.{arith}
use mathlib.Core.Bool.{Bool, beq, true, false, ◌&&◌, ◌||◌, true≢false, false≢true}
use borrow.Author.Tests.{lt-ltb, le-ltb, ltb-true, ltb-false, eqb-true}
use lib.IntN.{ℤ}
use lib.Dec.{ltb, eqb, lit<}
use lib.Ieee.{Float, nan, inf, fin, up, down, lt, eq}
use lib.Ieee.Fits.{down_pos}
use lib.Ieee.Positive.{first_pos}
use Rattle.rounding.specs.Round.{zero64}

-- x / p < y / q < z / r
through : (x y z p q r : ℕ) → 0 < p → x * q < y * p → y * r < z * q → x * r < z * p
through x y z p q r P h k =
    lt_of_mul-lt-mul_right q
    (lt_of_le_of_lt (le_of_eq (mul_right_comm x r q))
    (lt_of_le_of_lt (mul-le-mul_right r (le_of_lt h))
    (lt_of_le_of_lt (le_of_eq (mul_right_comm y p r))
    (lt_of_lt_of_le (mul-lt-mul_of_pos_right k P) (le_of_eq (mul_right_comm z q p))))))

above : (a b : ℕ) → a < b → 0 < b
above a b h = omega arith

-- from one common denominator to another: n * u above zero whatever it is multiplied by
over : (n w v : ℕ) → 0 < v → 0 < n * w → 0 < n * v
over n w v p h = mul-pos (first_pos n w h) p

pub lt_trans : (x y z : Float) → lt x y ≡ true → lt y z ≡ true → lt x z ≡ true
unfolding lt
lt_trans nan y z h k = h
lt_trans (inf s) nan z h k = absurd (false≢true h)
lt_trans (inf true) (inf t) nan h k = k
lt_trans (inf true) (inf true) (inf t) h k = k
lt_trans (inf true) (inf true) (fin t n d) h k = refl
lt_trans (inf true) (inf false) (inf t) h k = absurd (false≢true k)
lt_trans (inf true) (inf false) (fin t n d) h k = refl
lt_trans (inf false) (inf t) z h k = absurd (false≢true h)
lt_trans (inf true) (fin t n d) nan h k = k
lt_trans (inf true) (fin t n d) (inf u) h k = k
lt_trans (inf true) (fin t n d) (fin u o g) h k = refl
lt_trans (inf false) (fin t n d) z h k = absurd (false≢true h)
lt_trans (fin s m e) nan z h k = absurd (false≢true h)
lt_trans (fin s m e) (inf true) z h k = absurd (false≢true h)
lt_trans (fin s m e) (inf false) nan h k = absurd (false≢true k)
lt_trans (fin s m e) (inf false) (inf u) h k = absurd (false≢true k)
lt_trans (fin s m e) (inf false) (fin u o g) h k = absurd (false≢true k)
lt_trans (fin s m e) (fin t n d) nan h k = absurd (false≢true k)
lt_trans (fin s m e) (fin t n d) (inf u) h k = k
lt_trans (fin false m e) (fin true n d) (fin u o g) h k = absurd (false≢true h)
lt_trans (fin s m e) (fin false n d) (fin true o g) h k = absurd (false≢true k)
lt_trans (fin false m e) (fin false n d) (fin false o g) h k =
    lt-ltb (m * up e * down g) (o * up g * down e)
    (through (m * up e) (n * up d) (o * up g) (down e) (down d) (down g) (down_pos e) (ltb-true (m * up e * down d) (n * up d * down e) h) (ltb-true (n * up d * down g) (o * up g * down d) k))
lt_trans (fin true m e) (fin true n d) (fin true o g) h k =
    lt-ltb (o * up g * down e) (m * up e * down g)
    (through (o * up g) (n * up d) (m * up e) (down g) (down d) (down e) (down_pos g) (ltb-true (o * up g * down d) (n * up d * down g) k) (ltb-true (n * up d * down e) (m * up e * down d) h))
lt_trans (fin true m e) (fin false n d) (fin false o g) h k =
    lt-ltb 0 (m * up e * down g + o * up g * down e)
    (lt_of_lt_of_le (over (o * up g) (down d) (down e) (down_pos e) (above (n * up d * down g) (o * up g * down d) (ltb-true (n * up d * down g) (o * up g * down d) k))) (le-add_left (o * up g * down e) (m * up e * down g)))
lt_trans (fin true m e) (fin true n d) (fin false o g) h k =
    lt-ltb 0 (m * up e * down g + o * up g * down e)
    (lt_of_lt_of_le (over (m * up e) (down d) (down g) (down_pos g) (above (n * up d * down e) (m * up e * down d) (ltb-true (n * up d * down e) (m * up e * down d) h))) (le-add_right (m * up e * down g) (o * up g * down e)))

-- of a value that is not below y, and a z below y: the value is not below z
pub not_below_less : (x y z : Float) → lt x y ≡ false → lt z y ≡ true → lt x z ≡ false
not_below_less x y z h k = go (lt x z) refl
  where
    go : (b : Bool) → lt x z ≡ b → b ≡ false
    go true e = absurd (true≢false (sym (lt_trans x z y e k) ∙ h))
    go false e = refl

-- ---- a test `d == 0.0` that passes: d is a zero, of either sign
gone : (n w v : ℕ) → n * w ≡ 0 → 0 < w → n * v ≡ 0
gone n w v e h = elim (eq-zero-or-pos n) [ inl z ↦ ap (λ (k : ℕ). k * v) z ∙ zero-mul v | inr p ↦ absurd (lt_irrefl 0 (subst (λ (k : ℕ). 0 < k) e (mul-pos p h))) ]

sum_zero : (a b : ℕ) → a + b ≤ 0 → a ≡ 0
sum_zero a b h = omega arith

no_less : (a b : ℕ) → b ≡ 0 → ltb a b ≡ false
no_less a b e = le-ltb a b (le_trans (le_of_eq e) zero-le)

no_sum : (a b : ℕ) → a ≡ 0 → b ≡ 0 → ltb 0 (a + b) ≡ false
no_sum a b e f = le-ltb 0 (a + b) (omega arith)

first_of : (a b : Bool) → a && b ≡ true → a ≡ true
first_of true b e = refl
first_of false b e = e

is_zero : (s : Bool) (m : ℕ) (e : ℤ) (v : ℕ) → eq (fin s m e) zero64 ≡ true → m * up e * v ≡ 0
unfolding eq
is_zero s m e v h =
    gone (m * up e) 1 v (eqb-true (m * up e * 1) (0 * 1 * down e) (first_of (eqb (m * up e * 1) (0 * 1 * down e)) (beq s false || eqb (m * up e * 1) 0) h) ∙ zero-mul (down e)) (lit< tt)

pub not_below_a_zero : (x d : Float) → lt x zero64 ≡ false → eq d zero64 ≡ true → lt x d ≡ false
unfolding lt
not_below_a_zero x nan h k = absurd (false≢true (unfold eq in k))
not_below_a_zero x (inf t) h k = absurd (false≢true (unfold eq in k))
not_below_a_zero nan (fin t m e) h k = refl
not_below_a_zero (inf s) (fin t m e) h k = h
not_below_a_zero (fin false n g) (fin false m e) h k = no_less (n * up g * down e) (m * up e * down g) (is_zero false m e (down g) k)
not_below_a_zero (fin false n g) (fin true m e) h k = refl
not_below_a_zero (fin true n g) (fin false m e) h k =
    no_sum (n * up g * down e) (m * up e * down g) (gone (n * up g) 1 (down e) (sum_zero (n * up g * 1) (0 * 1 * down g) (ltb-false 0 (n * up g * 1 + 0 * 1 * down g) h)) (lit< tt)) (is_zero false m e (down g) k)
not_below_a_zero (fin true n g) (fin true m e) h k =
    no_less (m * up e * down g) (n * up g * down e) (gone (n * up g) 1 (down e) (sum_zero (n * up g * 1) (0 * 1 * down g) (ltb-false 0 (n * up g * 1 + 0 * 1 * down g) h)) (lit< tt))

pub lt_self : (x : Float) → lt x x ≡ false
unfolding lt
lt_self nan = refl
lt_self (inf true) = refl
lt_self (inf false) = refl
lt_self (fin true m e) = le-ltb (m * up e * down e) (m * up e * down e) (le_refl (m * up e * down e))
lt_self (fin false m e) = le-ltb (m * up e * down e) (m * up e * down e) (le_refl (m * up e * down e))
