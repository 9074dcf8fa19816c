-- Of all percentages with k digits behind the point at most one has given bits, and both ways to look for it find it: the exact product
-- of the accuracy and 100 * 10 ^ k, and the f64 product, each rounded. With at most 15 digits an f64 is off by less than an eighth of
-- one of them, and its product by less than a quarter more. Assumes nothing.
use mathlib.Core.Path.{◌≡◌, refl, sym, ap, ◌∙◌, subst}
use mathlib.Core.Logic.{inl, inr}
use Prim.Native.Nat.{ℕ, ◌+◌, ◌*◌, ◌^◌, ◌≤◌, ◌<◌, zero-le}
use native.Mathlib.Nat.{le_of_eq, le_trans, lt_of_lt_of_le, lt_of_le_of_lt, mul-pos, mul-one, one-mul, zero-mul, mul_right_comm, mul-le-mul_right, le_of_mul-le-mul_right, le-mul_of_pos_right, eq-zero-or-pos, add-mul, mul-mul-mul_comm}
use native.Mathlib.Omega.{arith}
use mathlib.Core.Bool.{true, false, true≢false}
use lib.IntN.{pos}
use lib.Dec.{T, lit<, lit≤, lt→ltb}
use lib.Pow.{pow_pos}
use lib.Ieee.{Float, nan, inf, fin, binary64, low, up, down, round, mul, of_int, lt, le}
use lib.Ieee.Fits.{down_pos}
use lib.Ieee.Exact.{HasValue}
use lib.Ieee.Nearest.{closest, closest_same}
use lib.Ieee.Order.{drop, le_of_values}
use lib.Ieee.Scale.{round_same, round_val, grid}
use Rattle.rounding.specs.Round.{round_even, product, zero64}
use Rattle.rounding.proofs.Floats.{of-int, lt-value}
use Rattle.rounding.proofs.Near.{G, near, closest-at}
use Rattle.percent.specs.Percent.{whole_of}

-- ---- numbers, S being eight times W
abbrev Near : ℕ → ℕ → ℕ → Type 0
Near x m W = (m ≤ x + W) × (x ≤ m + W)

-- m is x rounded, and W at least one part of x in 2 ^ 53
by_part : (x m W : ℕ) → x ≤ 2 ^ 53 * W → (m * 2 ^ 53 ≤ x * 2 ^ 53 + x) × (x * 2 ^ 53 ≤ m * 2 ^ 53 + x) → Near x m W
by_part x m W h k = (omega arith, omega arith)

cancel : (a b c S : ℕ) → 0 < S → a * S * c ≤ b * S * c + b * S → a * c ≤ b * c + b
cancel a b c S h k =
    le_of_mul-le-mul_right (le_trans (le_of_eq (mul_right_comm a c S)) (le_trans k (le_of_eq (sym (add-mul (b * c) b S ∙ ap (λ (x : ℕ). x + b * S) (mul_right_comm b c S)))))) h

cancel' : (a b c S : ℕ) → 0 < S → b * S * c ≤ a * S * c + b * S → b * c ≤ a * c + b
cancel' a b c S h k =
    le_of_mul-le-mul_right (le_trans (le_of_eq (mul_right_comm b c S)) (le_trans k (le_of_eq (sym (add-mul (a * c) b S ∙ ap (λ (x : ℕ). x + b * S) (mul_right_comm a c S)))))) h

G-zero : (c : ℕ) → 0 < c → G 0 c ≡ 0
G-zero c C =
    let u : 0 < c * 2 ^ drop 53 0 c = mul-pos C (pow_pos (drop 53 0 c)) in
    ap (λ (y : ℕ). y * 2 ^ drop 53 0 c) (closest_same 0 (c * 2 ^ drop 53 0 c) 0 1 u (lit< tt) (sym (zero-mul (c * 2 ^ drop 53 0 c)))) ∙ zero-mul (2 ^ drop 53 0 c)

-- x is p S: zero, or far from it
normal : (x c S W : ℕ) → S ≡ 8 * W → 2 ^ 99 ≤ S → c ≤ 2 ^ 47 → S ≤ x → 2 ^ 52 * c ≤ x
normal x c S W e b h l = omega arith

parts : (x S W : ℕ) → S ≡ 8 * W → x ≤ 2 ^ 50 * S → x ≤ 2 ^ 53 * W
parts x S W e h = omega arith

-- y is near x, and x as above
normal' : (x y S W : ℕ) → S ≡ 8 * W → 2 ^ 99 ≤ S → S ≤ x → Near x y W → 2 ^ 52 ≤ y
normal' x y S W e b h n = omega arith

parts' : (x y S W : ℕ) → S ≡ 8 * W → x ≤ 2 ^ 50 * S → Near x y W → y ≤ 2 ^ 53 * (2 * W)
parts' x y S W e h n = omega arith

-- of two roundings, one after the other
abbrev Twice : ℕ → ℕ → ℕ → ℕ → Type 0
Twice x y z W = Near x y W × Near y z (2 * W)

halves : (x y z S W : ℕ) → S ≡ 8 * W → 2 ^ 99 ≤ S → Twice x y z W → (y * 2 < x * 2 + S) × (x * 2 < y * 2 + S) × (z * 2 < x * 2 + S) × (x * 2 < z * 2 + S)
halves x y z S W e b n = (omega arith, omega arith, omega arith, omega arith)

tops : (x y z S W : ℕ) → S ≡ 8 * W → 0 < S → x ≤ 2 ^ 50 * S → Twice x y z W → (y < 2 ^ 51 * S) × (z < 2 ^ 51 * S)
tops x y z S W e b h n = (omega arith, omega arith)

module _ (S W q p : ℕ) (e : S ≡ 8 * W) (big : 2 ^ 99 ≤ S) (Q : 0 < q) (q-le : q ≤ 2 ^ 47) (p-le : p ≤ 2 ^ 50) where
  abbrev value : ℕ
  value = G (p * S) q

  -- the value times q, in units, and that rounded
  abbrev exact : ℕ
  exact = value * q

  abbrev rounded : ℕ
  rounded = G (exact * S) S

  S_pos : 0 < S
  S_pos = lt_of_lt_of_le (lit< tt) big

  room : p * S ≤ 2 ^ 50 * S
  room = mul-le-mul_right S p-le

  near-value : 0 < p → Near (p * S) exact W
  near-value P = by_part (p * S) exact W (parts (p * S) S W e room) (near (p * S) q Q (normal (p * S) q S W e big q-le (some P)))
    where
      some : 0 < p → S ≤ p * S
      some P = le_trans (le_of_eq (sym (one-mul S))) (mul-le-mul_right S P)

  near_rounded : 0 < p → Near exact rounded (2 * W)
  near_rounded P =
      let n = near-value P in
      let k = near (exact * S) S S_pos (mul-le-mul_right S (normal' (p * S) exact S W e big (le_trans (le_of_eq (sym (one-mul S))) (mul-le-mul_right S P)) n)) in
      by_part exact rounded (2 * W) (parts' (p * S) exact S W e room n) (cancel rounded exact (2 ^ 53) S S_pos k.0, cancel' rounded exact (2 ^ 53) S S_pos k.1)

  zero_exact : p ≡ 0 → exact ≡ 0
  zero_exact z = ap (λ (x : ℕ). G x q * q) (ap (λ (x : ℕ). x * S) z ∙ zero-mul S) ∙ ap (λ (x : ℕ). x * q) (G-zero q Q) ∙ zero-mul q

  zero_rounded : p ≡ 0 → rounded ≡ 0
  zero_rounded z = ap (λ (x : ℕ). G x S) (ap (λ (x : ℕ). x * S) (zero_exact z) ∙ zero-mul S) ∙ G-zero S S_pos

  twice : Twice (p * S) exact rounded W
  twice = elim (eq-zero-or-pos p) [
    | inl z ↦ zeros (ap (λ (x : ℕ). x * S) z ∙ zero-mul S) (zero_exact z) (zero_rounded z)
    | inr P ↦ (near-value P, near_rounded P)
  ]
    where
      zeros : p * S ≡ 0 → exact ≡ 0 → rounded ≡ 0 → Twice (p * S) exact rounded W
      zeros a b c = ((omega arith, omega arith), (omega arith, omega arith))

  pub both_closest : (closest exact S ≡ p) × (closest rounded S ≡ p)
  both_closest =
      let h = halves (p * S) exact rounded S W e big twice in
      (closest-at exact S p S_pos h.0 h.1, closest-at rounded S p S_pos h.2 h.3)

  pub both_small : (exact < 2 ^ 51 * S) × (rounded < 2 ^ 51 * S)
  both_small = tops (p * S) exact rounded S W e S_pos room twice

-- ---- floats
-- by any fraction that x equals
whole_value : (x : Float) (a c n : ℕ) → 0 < c → HasValue x false a c → whole_of x n ≡ closest (a * n) c
unfolding whole_of
whole_value nan a c n C v = absurd v
whole_value (inf s) a c n C v = absurd v
whole_value (fin true m e) a c n C v = absurd (true≢false v.0)
whole_value (fin false m e) a c n C v =
    closest_same (m * up e * n) (down e) (a * n) c (down_pos e) C (mul_right_comm (m * up e) n c ∙ ap (λ (x : ℕ). x * n) v.1 ∙ mul_right_comm a (down e) n)

even_value : (x : Float) (a c : ℕ) → 0 < c → HasValue x false a c → round_even x ≡ closest a c
unfolding round_even
even_value nan a c C v = absurd v
even_value (inf s) a c C v = absurd v
even_value (fin true m e) a c C v = absurd (true≢false v.0)
even_value (fin false m e) a c C v = closest_same (m * up e) (down e) a c (down_pos e) C v.1

cross : (M N A C D E n : ℕ) → M * C ≡ A * D → N * 1 ≡ n * E → M * N * C ≡ A * n * (D * E)
cross M N A C D E n h k =
    mul_right_comm M N C ∙ ap (λ (x : ℕ). x * N) h ∙ ap (λ (x : ℕ). A * D * x) (sym (mul-one N) ∙ k)
    ∙ mul-mul-mul_comm A D n E

product_value : (x y : Float) (a c n : ℕ) → 0 < c → HasValue x false a c → HasValue y false n 1 → mul binary64 x y ≡ round binary64 false (a * n) c
unfolding mul
product_value nan y a c n C v w = absurd v
product_value (inf s) y a c n C v w = absurd v
product_value (fin true m e) y a c n C v w = absurd (true≢false v.0)
product_value (fin false m e) nan a c n C v w = absurd w
product_value (fin false m e) (inf s) a c n C v w = absurd w
product_value (fin false m e) (fin true o g) a c n C v w = absurd (true≢false w.0)
product_value (fin false m e) (fin false o g) a c n C v w =
    round_same binary64 false (m * up e * (o * up g)) (down e * down g) (a * n) c (mul-pos (down_pos e) (down_pos g)) C
    (cross (m * up e) (o * up g) a c (down e) (down g) n v.1 w.1)

-- ---- p / q as an f64, and its product with q
module _ (p q : ℕ) (Q : 0 < q) (q-le : q ≤ 2 ^ 47) (p-le : p ≤ 2 ^ 50) where
  abbrev unit : ℕ
  unit = 2 ^ low binary64

  closest_too : (closest (grid binary64 p q * q) unit ≡ p) × (closest (grid binary64 (grid binary64 p q * q) unit) unit ≡ p)
  closest_too = both_closest unit (2 ^ 1071) q p refl (lit≤ tt) Q q-le p-le

  small : (grid binary64 p q * q < 2 ^ 51 * unit) × (grid binary64 (grid binary64 p q * q) unit < 2 ^ 51 * unit)
  small = both_small unit (2 ^ 1071) q p refl (lit≤ tt) Q q-le p-le

  accuracy-value : HasValue (round binary64 false p q) false (grid binary64 p q) unit
  accuracy-value = round_val binary64 p q (lt_of_le_of_lt (le-mul_of_pos_right (grid binary64 p q) Q) (lt_of_lt_of_le small.0 (lit≤ tt)))

  pub whole_is : whole_of (round binary64 false p q) q ≡ p
  whole_is = whole_value (round binary64 false p q) (grid binary64 p q) unit q (pow_pos (low binary64)) accuracy-value ∙ closest_too.0

  x_value : HasValue (product (round binary64 false p q) q) false (grid binary64 (grid binary64 p q * q) unit) unit
  x_value =
      subst (λ (x : Float). HasValue x false (grid binary64 (grid binary64 p q * q) unit) unit)
      (sym (product_value (round binary64 false p q) (of_int binary64 (pos q)) (grid binary64 p q) unit q (pow_pos (low binary64)) accuracy-value (of-int q (le_trans q-le (lit≤ tt)))))
      (round_val binary64 (grid binary64 p q * q) unit (lt_of_lt_of_le small.1 (lit≤ tt)))

  pub product_is : round_even (product (round binary64 false p q) q) ≡ p
  product_is = even_value (product (round binary64 false p q) q) (grid binary64 (grid binary64 p q * q) unit) unit (pow_pos (low binary64)) x_value ∙ closest_too.1

  pub product-from : T (le zero64 (product (round binary64 false p q) q))
  product-from =
      le_of_values zero64 (product (round binary64 false p q) q) 0 1 (grid binary64 (grid binary64 p q * q) unit) unit (lit< tt) (pow_pos (low binary64)) (refl, refl) x_value
      (le_trans (le_of_eq (zero-mul unit)) zero-le)

  pub product-below : T (lt (product (round binary64 false p q) q) (fin false 1 (pos 51)))
  product-below =
      subst T
      (sym (lt-value (product (round binary64 false p q) q) (fin false 1 (pos 51)) (grid binary64 (grid binary64 p q * q) unit) unit (2 ^ 51) 1 (pow_pos (low binary64)) (lit< tt) x_value (refl, refl)))
      (lt→ltb (grid binary64 (grid binary64 p q * q) unit * 1) (2 ^ 51 * unit) (lt_of_le_of_lt (le_of_eq (mul-one (grid binary64 (grid binary64 p q * q) unit))) small.1))
