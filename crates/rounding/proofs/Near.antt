-- What the rounding of a fraction to an f64 changes: in the normal range at most one part in 2 ^ 53. And the whole number nearest to a
-- fraction that lies less than a half from it. Assumes nothing.
use mathlib.Core.Path.{◌≡◌, sym, ap, ◌∙◌, subst}
use Prim.Native.Nat.{ℕ, ◌+◌, ◌-◌, ◌*◌, ◌/◌, ◌^◌, ◌≤◌, ◌<◌, compare, Ordering}
use native.Mathlib.Nat.{le_of_eq, le_trans, lt_of_lt_of_le, lt_of_not-le, not-le_of_lt, mul-pos, mul_assoc, mul_comm, mul-le-mul_right, suc-mul, le-div_iff_mul-le}
use native.Mathlib.Omega.{arith}
use lib.Pow.{pow_pos, pow_mono, pow-add}
use lib.Ieee.{size}
use lib.Ieee.Digits.{size-lt, size_reaches}
use lib.Ieee.Nearest.{closest}
use lib.Ieee.Order.{drop, kept}
use Rattle.rounding.proofs.Floats.{Cmp, cmp}
use Rattle.rounding.proofs.Whole.{closest-nearest}

-- ---- less than a half away
apart : (r p d : ℕ) → r < p → r * d + d ≤ p * d
apart r p d h = le_trans (le_of_eq (sym (suc-mul r d))) (mul-le-mul_right d h)

-- n within d / 2 of r d, and nearer than that to p d
too_far : (n d x y : ℕ) → 2 * (n - x + (x - n)) ≤ d → n * 2 < y * 2 + d → y * 2 < n * 2 + d → (x + d ≤ y → ⊥) × (y + d ≤ x → ⊥)
too_far n d x y h k l = ((λ z. omega arith), (λ z. omega arith))

pub closest-at : (n d p : ℕ) → 0 < d → n * 2 < p * d * 2 + d → p * d * 2 < n * 2 + d → closest n d ≡ p
closest-at n d p D k l = go (closest n d) (compare (closest n d) p) (cmp (closest n d) p) (closest-nearest n d D).near
  where
    go : (r : ℕ) (o : Ordering) → Cmp o r p → 2 * (n - r * d + (r * d - n)) ≤ d → r ≡ p
    go r Ordering.lt c h = absurd ((too_far n d (r * d) (p * d) h k l).0 (apart r p d c))
    go r Ordering.eq c h = c
    go r Ordering.gt c h = absurd ((too_far n d (r * d) (p * d) h k l).1 (apart p r d c))

-- ---- x / c in units of the smallest f64, with 53 digits kept; `grid binary64 a c` is `G (a * 2 ^ low binary64) c`
abbrev pub G : ℕ → ℕ → ℕ
G x c = kept 53 x c * 2 ^ drop 53 x c

size_ge : (n j : ℕ) → 2 ^ j ≤ n → j < size n
size_ge n j h = lt_of_not-le (λ (g : size n ≤ j). not-le_of_lt (lt_of_lt_of_le (size-lt n) (pow_mono g)) h)

top_digit : (z : ℕ) → 52 < z → 52 + (z - 53) < z
top_digit z h = omega arith

enough : (x m u : ℕ) → 2 * (x - m + (m - x)) ≤ u → 2 ^ 52 * u ≤ x → (m * 2 ^ 53 ≤ x * 2 ^ 53 + x) × (x * 2 ^ 53 ≤ m * 2 ^ 53 + x)
enough x m u h l = (omega arith, omega arith)

pub near : (x c : ℕ) → 0 < c → 2 ^ 52 * c ≤ x → (G x c * c * 2 ^ 53 ≤ x * 2 ^ 53 + x) × (x * 2 ^ 53 ≤ G x c * c * 2 ^ 53 + x)
near x c C n =
    let k = drop 53 x c in
    let u = c * 2 ^ k in
    let z : 52 < size (x / c) = size_ge (x / c) 52 ((le-div_iff_mul-le C).1 n) in
    let l : 2 ^ (52 + k) * c ≤ x = (le-div_iff_mul-le C).0 (size_reaches (x / c) (52 + k) (top_digit (size (x / c)) z)) in
    let l' : 2 ^ 52 * u ≤ x = le_trans (le_of_eq (sym (ap (λ (y : ℕ). y * c) (pow-add 2 52 k) ∙ mul_assoc (2 ^ 52) (2 ^ k) c ∙ ap (λ (y : ℕ). 2 ^ 52 * y) (mul_comm (2 ^ k) c)))) l in
    let m : G x c * c ≡ kept 53 x c * u = mul_assoc (kept 53 x c) (2 ^ k) c ∙ ap (λ (y : ℕ). kept 53 x c * y) (mul_comm (2 ^ k) c) in
    subst (λ (y : ℕ). (y * 2 ^ 53 ≤ x * 2 ^ 53 + x) × (x * 2 ^ 53 ≤ y * 2 ^ 53 + x)) (sym m) (enough x (kept 53 x c * u) u (closest-nearest x u (mul-pos C (pow_pos k))).near l')
