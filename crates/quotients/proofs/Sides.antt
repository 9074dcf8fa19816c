-- A fraction a / b with a ≤ 2 ^ 31 and b ≤ 2 ^ 20, rounded to an f64, stays on its side of each whole number and of each half:
-- so its floor, its ceiling and its nearest whole number, a half to even, are those of a / b. Assumes nothing.
use mathlib.Core.Path.{◌≡◌, sym, ap, ◌∙◌, subst}
use Prim.Native.Nat.{ℕ, suc, ◌+◌, ◌-◌, ◌*◌, ◌/◌, ◌%◌, ◌^◌, ◌≤◌, ◌<◌, compare, Ordering}
use native.Mathlib.Nat.{le_antisymm, le_trans, le_of_eq, le_of_lt, lt_of_lt_of_le, lt_of_le_of_lt, mul-one, one-mul, mul_comm, mul_assoc, mul_right_comm, add-mul, mul-sub, mod-lt, div-add-mod', le-div_iff_mul-le, div-lt_iff_lt-mul, div-le_self, zero-mul, eq-zero-or-pos, mul-le-mul_right, not-le_of_lt, le-mul_of_pos_right, lt_of_mul-lt-mul_right, mul-lt-mul_of_pos_right, eq_of_mul-eq-mul_right, div-one, mod-one}
use native.Mathlib.Omega.{arith}
use mathlib.Core.Bool.{false}
use mathlib.Core.Logic.{inl, inr}
use lib.Dec.{lit<, lit≤}
use lib.Pow.{shl_lt}
use lib.Ieee.{binary64, nearest, round}
use lib.Ieee.Exact.{HasValue, round_exact}
use lib.Ieee.Order.{round_mono}
use lib.Ieee.Nearest.{closest, closest_same, closest_mono, div_same}
use Rattle.rounding.specs.Quotient.{rounded_up}
use Rattle.rounding.proofs.Floats.{Cmp, cmp, le-value, closest_by}

-- ---- numbers
quotient_is : (n d k : ℕ) → 0 < d → k * d ≤ n → n < suc k * d → n / d ≡ k
quotient_is n d k D l h = le_antisymm (below k (n / d) ((div-lt_iff_lt-mul D).1 h)) ((le-div_iff_mul-le D).1 l)
  where
    below : (k q : ℕ) → q < suc k → q ≤ k
    below k q h = omega arith

one_more : (k d : ℕ) → suc k * d ≡ k * d + d
one_more k d = ap (λ (x : ℕ). x * d) (omega arith) ∙ add-mul k 1 d ∙ ap (λ (x : ℕ). k * d + x) (one-mul d)

part_of : (a p r : ℕ) → p + r ≡ a → p ≤ a
part_of a p r e = omega arith

below_next : (a b p r q : ℕ) → p + r ≡ a → r < b → q ≡ p + b → a < q
below_next a b p r q e l h = omega arith

pub closest-one : (n : ℕ) → closest n 1 ≡ n
closest-one n = ap (λ (q : ℕ). nearest q (compare (n % 1 * 2) 1)) (div-one n) ∙ ap (λ (r : ℕ). nearest n (compare (r * 2) 1)) (mod-one n)

-- n rounded up, by what is left of it over k * d
pub up_whole : (n d k : ℕ) → 0 < d → n ≡ k * d → rounded_up n d ≡ k
unfolding rounded_up
up_whole n d k D e = quotient_is (n + (d - 1)) d k D (omega arith) (omega (arith, one_more k d))

up_part : (n d k : ℕ) → 0 < d → k * d < n → n < suc k * d → rounded_up n d ≡ suc k
unfolding rounded_up
up_part n d k D l h = quotient_is (n + (d - 1)) d (suc k) D (omega (arith, one_more k d)) (omega (arith, one_more k d, one_more (suc k) d))

-- rounded up, equal fractions are the same number; and it is at most n
pub up_le : (n d : ℕ) → 0 < d → rounded_up n d ≤ n
unfolding rounded_up
up_le n d D = at_most n ((n + (d - 1)) / d) ((div-lt_iff_lt-mul D).1 (lt_of_lt_of_le (one_left n d D) (le_of_eq (sym (one_more n d)))))
  where
    at_most : (n q : ℕ) → q < suc n → q ≤ n
    at_most n q h = omega arith

    one_left : (n d : ℕ) → 0 < d → n + (d - 1) < n * d + d
    one_left n d h = omega (arith, le-mul_of_pos_right n h)

pub up_zero : (d : ℕ) → 0 < d → rounded_up 0 d ≡ 0
up_zero d D = up_whole 0 d 0 D (sym (zero-mul d))

-- the two ways to round up, by the place of n / d against its whole part
pub up_by : (n d : ℕ) → 0 < d → (n / d * d ≡ n → rounded_up n d ≡ n / d) × (n / d * d < n → rounded_up n d ≡ suc (n / d))
up_by n d D = (
  (λ h. up_whole n d (n / d) D (sym h)),
  (λ h. up_part n d (n / d) D h (below_next n d (n / d * d) (n % d) (suc (n / d) * d) (div-add-mod' n d) (mod-lt n D) (one_more (n / d) d))),
)

pub up_same : (a b c d : ℕ) → 0 < b → 0 < d → a * d ≡ c * b → rounded_up a b ≡ rounded_up c d
up_same a b c d B D h = go (compare (a / b * b) a) (cmp (a / b * b) a)
  where
    k : ℕ
    k = a / b

    e : a / b ≡ c / d
    e = div_same a b c d B D h

    go : (o : Ordering) → Cmp o (a / b * b) a → rounded_up a b ≡ rounded_up c d
    go Ordering.lt l = (up_by a b B).1 l ∙ ap suc e ∙ sym ((up_by c d D).1 (less l))
      where
        less : a / b * b < a → c / d * d < c
        less l = lt_of_mul-lt-mul_right b (lt_of_le_of_lt (le_of_eq (ap (λ (x : ℕ). x * d * b) (sym e) ∙ mul_right_comm (a / b) d b)) (lt_of_lt_of_le (mul-lt-mul_of_pos_right l D) (le_of_eq h)))
    go Ordering.eq l = (up_by a b B).0 l ∙ e ∙ sym ((up_by c d D).0 (eq_of_mul-eq-mul_right b B (c / d * d) c (ap (λ (x : ℕ). x * d * b) (sym e) ∙ mul_right_comm (a / b) d b ∙ ap (λ (x : ℕ). x * d) l ∙ h)))
    go Ordering.gt l = absurd (not-le_of_lt l (part_of a (a / b * b) (a % b) (div-add-mod' a b)))

pub closest_zero : (d : ℕ) → 0 < d → closest 0 d ≡ 0
closest_zero d D = closest_same 0 d 0 1 D (lit< tt) (sym (zero-mul d))

pub closest-le : (n d : ℕ) → 0 < d → closest n d ≤ n
closest-le n d D = le_trans (closest_mono n d n 1 D (lit< tt) (le_trans (le_of_eq (mul-one n)) (le-mul_of_pos_right n D))) (le_of_eq (closest-one n))

less_one : (j c b : ℕ) → (j * c - 1) * b ≡ j * b * c - b
less_one j c b =
    mul_comm (j * c - 1) b ∙ mul-sub b (j * c) 1
    ∙ ap (λ (x : ℕ). x - b * 1) (mul_comm b (j * c) ∙ mul_right_comm j c b)
    ∙ ap (λ (x : ℕ). j * b * c - x) (mul-one b)

plus_one : (j c b : ℕ) → (j * c + 1) * b ≡ j * b * c + b
plus_one j c b = add-mul (j * c) 1 b ∙ ap (λ (x : ℕ). x + 1 * b) (mul_right_comm j c b) ∙ ap (λ (x : ℕ). j * b * c + x) (one-mul b)

-- from a / b < j / 2 to a / b ≤ (j * 2 ^ 20 - 1) / 2 ^ 21, and from n / u ≤ that to n / u < j / 2; p is j * b, and j * u
down_to : (a b p q : ℕ) → b ≤ 2 ^ 20 → a * 2 < p → q ≡ p * 2 ^ 20 - b → a * 2 ^ 21 ≤ q
down_to a b p q B h e = omega arith

down_from : (n u p q : ℕ) → 0 < u → u ≤ p → q ≡ p * 2 ^ 20 - u → n * 2 ^ 21 ≤ q → n * 2 < p
down_from n u p q U P e h = omega arith

up_to : (a b p q : ℕ) → b ≤ 2 ^ 20 → p < a * 2 → q ≡ p * 2 ^ 20 + b → q ≤ a * 2 ^ 21
up_to a b p q B h e = omega arith

up_from : (n u p q : ℕ) → 0 < u → q ≡ p * 2 ^ 20 + u → q ≤ n * 2 ^ 21 → p < n * 2
up_from n u p q U e h = omega arith

-- ---- q / 2 ^ 21 is an f64 where q has at most 53 digits
parts : (q : ℕ) → q < 2 ^ 53 → HasValue (round binary64 false q (2 ^ 21)) false q (2 ^ 21)
parts q h = round_exact binary64 false q (2 ^ 21) q 1053 (lit< tt) h (lt_of_lt_of_le (shl_lt 53 1053 h) (lit≤ tt)) (sym (mul_assoc q (2 ^ 1053) (2 ^ 21)))

-- ---- n / u is the f64 of a / b
module _ (a b n u : ℕ) (B : 0 < b) (U : 0 < u) (v : HasValue (round binary64 false a b) false n u) where
  not_above : (q : ℕ) → q < 2 ^ 53 → a * 2 ^ 21 ≤ q * b → n * 2 ^ 21 ≤ q * u
  not_above q Q h =
      le-value (round binary64 false a b) (round binary64 false q (2 ^ 21)) n u q (2 ^ 21) U (lit< tt) v (parts q Q) (round_mono binary64 a b q (2 ^ 21) B (lit< tt) h)

  not_below : (q : ℕ) → q < 2 ^ 53 → q * b ≤ a * 2 ^ 21 → q * u ≤ n * 2 ^ 21
  not_below q Q h =
      le-value (round binary64 false q (2 ^ 21)) (round binary64 false a b) q (2 ^ 21) n u (lit< tt) U (parts q Q) v (round_mono binary64 q (2 ^ 21) a b (lit< tt) B h)

small : (j : ℕ) → j < 2 ^ 33 → (j * 2 ^ 20 - 1 < 2 ^ 53) × (j * 2 ^ 20 < 2 ^ 53) × (j * 2 ^ 20 + 1 < 2 ^ 53)
small j h = (omega arith, omega arith, omega arith)

level_to : (a b p q : ℕ) → a * 2 ≡ p → q ≡ p * 2 ^ 20 → a * 2 ^ 21 ≡ q
level_to a b p q h e = omega arith

level_from : (n u p q : ℕ) → q ≡ p * 2 ^ 20 → n * 2 ^ 21 ≤ q → q ≤ n * 2 ^ 21 → n * 2 ≡ p
level_from n u p q e h k = omega arith

no_less : (a b : ℕ) → a * 2 < 0 * b → ⊥
no_less a b h = omega (arith, zero-mul b)

some : (j a b : ℕ) → a * 2 < j * b → 0 < j
some j a b h = elim (eq-zero-or-pos j) [ inl z ↦ absurd (no_less a b (subst (λ (x : ℕ). a * 2 < x * b) z h)) | inr p ↦ p ]

-- ---- each side of j / 2
module _ (a b n u : ℕ) (B : 0 < b) (b-le : b ≤ 2 ^ 20) (U : 0 < u) (v : HasValue (round binary64 false a b) false n u) (j : ℕ) (J : j < 2 ^ 33) where
  under : a * 2 < j * b → n * 2 < j * u
  under h =
      let k = not_above a b n u B U v (j * 2 ^ 20 - 1) (small j J).0 (down_to a b (j * b) ((j * 2 ^ 20 - 1) * b) b-le h (less_one j (2 ^ 20) b)) in
      down_from n u (j * u) ((j * 2 ^ 20 - 1) * u) U (le_trans (le_of_eq (sym (one-mul u))) (mul-le-mul_right u (some j a b h))) (less_one j (2 ^ 20) u) k

  over : j * b < a * 2 → j * u < n * 2
  over h =
      let k = not_below a b n u B U v (j * 2 ^ 20 + 1) (small j J).2 (up_to a b (j * b) ((j * 2 ^ 20 + 1) * b) b-le h (plus_one j (2 ^ 20) b)) in
      up_from n u (j * u) ((j * 2 ^ 20 + 1) * u) U (plus_one j (2 ^ 20) u) k

  level : a * 2 ≡ j * b → n * 2 ≡ j * u
  level h =
      let e : a * 2 ^ 21 ≡ j * 2 ^ 20 * b = level_to a b (j * b) (j * 2 ^ 20 * b) h (mul_right_comm j (2 ^ 20) b) in
      level_from n u (j * u) (j * 2 ^ 20 * u) (mul_right_comm j (2 ^ 20) u)
      (not_above a b n u B U v (j * 2 ^ 20) (small j J).1 (le_of_eq e))
      (not_below a b n u B U v (j * 2 ^ 20) (small j J).1 (le_of_eq (sym e)))

twice : (k b : ℕ) → 2 * k * b ≡ 2 * (k * b)
twice k b = mul_assoc 2 k b

double_lt : (a p q : ℕ) → q ≡ 2 * p → a < p → a * 2 < q
double_lt a p q e h = omega arith

halve_lt : (a p q : ℕ) → q ≡ 2 * p → a * 2 < q → a < p
halve_lt a p q e h = omega arith

lt_double : (a p q : ℕ) → q ≡ 2 * p → p < a → q < a * 2
lt_double a p q e h = omega arith

lt_halve : (a p q : ℕ) → q ≡ 2 * p → q < a * 2 → p < a
lt_halve a p q e h = omega arith

eq_double : (a p q : ℕ) → q ≡ 2 * p → a ≡ p → a * 2 ≡ q
eq_double a p q e h = omega arith

eq_halve : (a p q : ℕ) → q ≡ 2 * p → a * 2 ≡ q → a ≡ p
eq_halve a p q e h = omega arith

in_33 : (k : ℕ) → k ≤ 2 ^ 31 → (2 * k < 2 ^ 33) × (2 * k + 1 < 2 ^ 33) × (2 * suc k < 2 ^ 33)
in_33 k h = (omega arith, omega arith, omega arith)

-- ---- the floor, the ceiling, the nearest
abbrev pub Alike : ℕ → ℕ → ℕ → ℕ → Type 0
Alike a b n u = (n / u ≡ a / b) × (rounded_up n u ≡ rounded_up a b) × (closest n u ≡ closest a b)

module _ (a b n u : ℕ) (A : a ≤ 2 ^ 31) (B : 0 < b) (b-le : b ≤ 2 ^ 20) (U : 0 < u) (v : HasValue (round binary64 false a b) false n u) where
  abbrev k : ℕ
  k = a / b

  k_in : (2 * k < 2 ^ 33) × (2 * k + 1 < 2 ^ 33) × (2 * suc k < 2 ^ 33)
  k_in = in_33 k (le_trans (div-le_self a b) A)

  next_a : a < suc k * b
  next_a = below_next a b (k * b) (a % b) (suc k * b) (div-add-mod' a b) (mod-lt a B) (one_more k b)

  next : n < suc k * u
  next = halve_lt n (suc k * u) (2 * suc k * u) (twice (suc k) u) (under a b n u B b-le U v (2 * suc k) k_in.2 (double_lt a (suc k * b) (2 * suc k * b) (twice (suc k) b) next_a))

  -- a / b is the whole number k, or above it
  at_whole : k * b ≡ a → n ≡ k * u
  at_whole e = eq_halve n (k * u) (2 * k * u) (twice k u) (level a b n u B b-le U v (2 * k) k_in.0 (eq_double a (k * b) (2 * k * b) (twice k b) (sym e)))

  past_whole : k * b < a → k * u < n
  past_whole h = lt_halve n (k * u) (2 * k * u) (twice k u) (over a b n u B b-le U v (2 * k) k_in.0 (lt_double a (k * b) (2 * k * b) (twice k b) h))

  -- n / u against the half above k
  by_half : n / u ≡ k → closest n u ≡ closest a b
  by_half e = go (compare (a * 2) ((2 * k + 1) * b)) (cmp (a * 2) ((2 * k + 1) * b))
    where
      same : (2 * k + 1) * u ≡ (2 * (n / u) + 1) * u
      same = ap (λ (x : ℕ). (2 * x + 1) * u) (sym e)

      go : (o : Ordering) → Cmp o (a * 2) ((2 * k + 1) * b) → closest n u ≡ closest a b
      go Ordering.lt h = (closest_by n u).0 (lt_of_lt_of_le (under a b n u B b-le U v (2 * k + 1) k_in.1 h) (le_of_eq same)) ∙ e ∙ sym ((closest_by a b).0 h)
      go Ordering.eq h = (closest_by n u).2 (level a b n u B b-le U v (2 * k + 1) k_in.1 h ∙ same) ∙ ap (λ (x : ℕ). x + x % 2) e ∙ sym ((closest_by a b).2 h)
      go Ordering.gt h = (closest_by n u).1 (lt_of_le_of_lt (le_of_eq (sym same)) (over a b n u B b-le U v (2 * k + 1) k_in.1 h)) ∙ ap (λ (x : ℕ). x + 1) e ∙ sym ((closest_by a b).1 h)

  pub alike : Alike a b n u
  alike = go (compare (k * b) a) (cmp (k * b) a)
    where
      go : (o : Ordering) → Cmp o (k * b) a → Alike a b n u
      go Ordering.lt h =
          let e : n / u ≡ k = quotient_is n u k U (le_of_lt (past_whole h)) next in
          (e, up_part n u k U (past_whole h) next ∙ sym (up_part a b k B h next_a), by_half e)
      go Ordering.eq h =
          let e : n / u ≡ k = quotient_is n u k U (le_of_eq (sym (at_whole h))) next in
          (e, up_whole n u k U (at_whole h) ∙ sym (up_whole a b k B (sym h)), by_half e)
      go Ordering.gt h = absurd (not-le_of_lt h (part_of a (k * b) (a % b) (div-add-mod' a b)))
