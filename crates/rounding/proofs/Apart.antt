-- From the target up, more points are never nearer: `distance` of two ratios, as floats. Assumes nothing.
use mathlib.Core.Path.{◌≡◌, refl, sym, ap, ◌∙◌, subst}
use Prim.Native.Nat.{ℕ, ◌-◌, ◌*◌, ◌^◌, ◌≤◌, ◌<◌, zero-le}
use native.Mathlib.Nat.{le_of_mul-le-mul_right, mul-le-mul_right, le_of_lt, le_of_eq, le_trans, lt_of_lt_of_le, lt_of_le_of_lt, mul-pos, mul-one, zero-mul, mul_comm, mul_assoc, mul_right_comm, mul-sub, sub-le, le-mul_of_pos_right}
use native.Mathlib.Omega.{arith}
use mathlib.Core.Bool.{Bool, true, false, cond, true≢false}
use borrow.Author.Tests.{lt-ltb, le-ltb, ltb-true}
use lib.Dec.{T, ltb, lit<, lit≤}
use lib.Pow.{pow_pos}
use lib.Ieee.{Float, nan, inf, fin, binary64, low, up, down, round, neg, sum, sub, lt, le}
use lib.Ieee.Fits.{down_pos}
use lib.Ieee.Exact.{HasValue}
use lib.Ieee.Back.{round_whole}
use lib.Ieee.Order.{round_mono}
use lib.Ieee.Scale.{round_same, round_under, round_val, grid}
use Rattle.rounding.specs.Round.{zero64}
use Rattle.rounding.specs.Distance.{distance, ratio}
use Rattle.rounding.proofs.Floats.{lt-value, le-value, rounded_within}
use Rattle.rounding.proofs.Distance.{ratio-is, rounded_finite, finite_of}

-- ---- the difference of a / w and b / w, b at most a
minus_same : (A B C a b w : ℕ) → A * w ≡ a * C → B * w ≡ b * C → (A - B) * w ≡ (a - b) * C
minus_same A B C a b w h k =
    mul_comm (A - B) w ∙ mul-sub w A B
    ∙ ap (λ (x : ℕ). x - w * B) (mul_comm w A ∙ h ∙ mul_comm a C)
    ∙ ap (λ (x : ℕ). C * a - x) (mul_comm w B ∙ k ∙ mul_comm b C)
    ∙ sym (mul-sub C a b) ∙ mul_comm C (a - b)

not_less : (A B C a b w : ℕ) → 0 < w → A * w ≡ a * C → B * w ≡ b * C → b ≤ a → B ≤ A
not_less A B C a b w W h k l = le_of_mul-le-mul_right (le_trans (le_of_eq k) (le_trans (mul-le-mul_right C l) (le_of_eq (sym h)))) W

sub-value : (x y : Float) (a b w : ℕ) → 0 < w → b ≤ a → HasValue x false a w → HasValue y false b w → sub binary64 x y ≡ round binary64 false (a - b) w
unfolding sub sum
sub-value nan y a b w W l h k = absurd h
sub-value (inf s) y a b w W l h k = absurd h
sub-value (fin true m e) y a b w W l h k = absurd (true≢false h.0)
sub-value (fin false m e) nan a b w W l h k = absurd k
sub-value (fin false m e) (inf s) a b w W l h k = absurd k
sub-value (fin false m e) (fin true n g) a b w W l h k = absurd (true≢false k.0)
sub-value (fin false m e) (fin false n g) a b w W l h k =
    let A = m * up e * down g in
    let B = n * up g * down e in
    let C = down e * down g in
    let P : 0 < C = mul-pos (down_pos e) (down_pos g) in
    let p : A * w ≡ a * C = mul_right_comm (m * up e) (down g) w ∙ ap (λ (x : ℕ). x * down g) h.1 ∙ mul_assoc a (down e) (down g) in
    let q : B * w ≡ b * C = mul_right_comm (n * up g) (down e) w ∙ ap (λ (x : ℕ). x * down e) k.1 ∙ mul_assoc b (down g) (down e) ∙ ap (λ (x : ℕ). b * x) (mul_comm (down g) (down e)) in
    ap (λ (x : Bool). cond x (round binary64 true (B - A) C) (round binary64 false (A - B) C)) (le-ltb A B (not_less A B C a b w W p q l))
    ∙ round_same binary64 false (A - B) C (a - b) w P W (minus_same A B C a b w p q)

less_minus : (a b c : ℕ) → a ≤ b → a - c ≤ b - c
less_minus a b c h = omega arith

-- ---- two values that are not negative, in order, against any third float
below_too : (x y z : Float) (a b w : ℕ) → 0 < w → HasValue x false a w → HasValue y false b w → a ≤ b → lt y z ≡ true → lt x z ≡ true
unfolding lt
below_too nan y z a b w W h k l t = absurd h
below_too (inf s) y z a b w W h k l t = absurd h
below_too (fin true m e) y z a b w W h k l t = absurd (true≢false h.0)
below_too (fin false m e) nan z a b w W h k l t = absurd k
below_too (fin false m e) (inf s) z a b w W h k l t = absurd k
below_too (fin false m e) (fin true n g) z a b w W h k l t = absurd (true≢false k.0)
below_too (fin false m e) (fin false n g) nan a b w W h k l t = t
below_too (fin false m e) (fin false n g) (inf s) a b w W h k l t = t
below_too (fin false m e) (fin false n g) (fin true o f) a b w W h k l t = t
below_too (fin false m e) (fin false n g) (fin false o f) a b w W h k l t =
    let z = fin false o f in
    let p : lt (fin false m e) z ≡ ltb (a * down f) (o * up f * w) = lt-value (fin false m e) z a w (o * up f) (down f) W (down_pos f) h (refl, refl) in
    let q : lt (fin false n g) z ≡ ltb (b * down f) (o * up f * w) = lt-value (fin false n g) z b w (o * up f) (down f) W (down_pos f) k (refl, refl) in
    p ∙ lt-ltb (a * down f) (o * up f * w) (lt_of_le_of_lt (mul-le-mul_right (down f) l) (ltb-true (b * down f) (o * up f * w) (sym q ∙ t)))

-- a value that is not negative is not below zero
above_zero : (x : Float) (a w : ℕ) → 0 < w → HasValue x false a w → lt x zero64 ≡ false
above_zero x a w W h = lt-value x zero64 a w 0 1 W (lit< tt) h (refl, refl) ∙ le-ltb (a * 1) (0 * w) (le_trans (le_of_eq (zero-mul w)) zero-le)

kept_sign : (d : Float) (b : Bool) → b ≡ false → cond b (neg d) d ≡ d
kept_sign d true e = absurd (true≢false e)
kept_sign d false e = refl

module _ (q : ℕ) (Q : 0 < q) (q-le : q ≤ 2 ^ 53) where
  abbrev one_unit : ℕ
  one_unit = 2 ^ low binary64

  abbrev share : ℕ → ℕ
  share p = grid binary64 p q

  ratio-value : (p : ℕ) → p < 2 ^ 31 → HasValue (ratio p q) false (share p) one_unit
  ratio-value p P =
      subst (λ (x : Float). HasValue x false (share p) one_unit) (sym (ratio-is p q (le_of_lt (lt_of_lt_of_le P (lit≤ tt))) Q q-le))
      (round_val binary64 p q (round_under binary64 p q (rounded_finite p q P Q)))

  share_le : (p r : ℕ) → p ≤ r → r < 2 ^ 31 → share p ≤ share r
  share_le p r l R =
      le_of_mul-le-mul_right
      (le-value (round binary64 false p q) (round binary64 false r q) (share p) one_unit (share r) one_unit (pow_pos (low binary64)) (pow_pos (low binary64))
      (round_val binary64 p q (round_under binary64 p q (rounded_finite p q (lt_of_le_of_lt l R) Q)))
      (round_val binary64 r q (round_under binary64 r q (rounded_finite r q R Q)))
      (round_mono binary64 p q r q Q Q (mul-le-mul_right q l)))
      (pow_pos (low binary64))

  -- a share is at most its count
  share_top : (p : ℕ) → p < 2 ^ 31 → share p ≤ p * one_unit
  share_top p P =
      le_trans (le_of_eq (sym (mul-one (share p))))
      (le-value (round binary64 false p q) (round binary64 false p 1) (share p) one_unit p 1 (pow_pos (low binary64)) (lit< tt)
      (round_val binary64 p q (round_under binary64 p q (rounded_finite p q P Q)))
      (round_whole binary64 false p (le_of_lt (lt_of_lt_of_le P (lit≤ tt))))
      (round_mono binary64 p q p 1 Q (lit< tt) (le_trans (le_of_eq (mul-one p)) (le-mul_of_pos_right p Q))))

  module _ (t : ℕ) where
    abbrev over : ℕ → Float
    over p = round binary64 false (share p - share t) one_unit

    over-value : (p : ℕ) → p < 2 ^ 31 → HasValue (over p) false (grid binary64 (share p - share t) one_unit) one_unit
    over-value p P =
        let w = rounded_within (share p - share t) one_unit p (pow_pos (low binary64)) P (le_trans (sub-le (share p) (share t)) (share_top p P)) in
        round_val binary64 (share p - share t) one_unit (round_under binary64 (share p - share t) one_unit (finite_of (over p) w.0 w.1))

    distance_is : (p : ℕ) → t ≤ p → p < 2 ^ 31 → distance (ratio p q) (ratio t q) ≡ over p
    unfolding distance
    distance_is p l P =
        ap (λ (d : Float). cond (lt d zero64) (neg d) d)
        (sub-value (ratio p q) (ratio t q) (share p) (share t) one_unit (pow_pos (low binary64)) (share_le t p l P) (ratio-value p P) (ratio-value t (lt_of_le_of_lt l P)))
        ∙ kept_sign (over p) (lt (over p) zero64) (above_zero (over p) (grid binary64 (share p - share t) one_unit) one_unit (pow_pos (low binary64)) (over-value p P))

    -- from the target up, more points lie at least as far
    pub not_nearer : (p r : ℕ) → t ≤ p → p ≤ r → r < 2 ^ 31 → T (le (distance (ratio p q) (ratio t q)) (distance (ratio r q) (ratio t q)))
    not_nearer p r l m R =
        rw (distance_is p l (lt_of_le_of_lt m R), distance_is r (le_trans l m) R)
        (round_mono binary64 (share p - share t) one_unit (share r - share t) one_unit (pow_pos (low binary64)) (pow_pos (low binary64))
        (mul-le-mul_right one_unit (less_minus (share p) (share r) (share t) (share_le p r m R))))

    -- what more points are below, fewer are below too, from the target up
    pub further
        : (p r : ℕ) → t ≤ p → p ≤ r → r < 2 ^ 31 → (z : Float)
        → lt (distance (ratio r q) (ratio t q)) z ≡ true → lt (distance (ratio p q) (ratio t q)) z ≡ true
    further p r l m R z h =
        let P : p < 2 ^ 31 = lt_of_le_of_lt m R in
        let k : lt (over r) z ≡ true = ap (λ (d : Float). lt d z) (sym (distance_is r (le_trans l m) R)) ∙ h in
        ap (λ (d : Float). lt d z) (distance_is p l P)
        ∙ below_too (over p) (over r) z (grid binary64 (share p - share t) one_unit) (grid binary64 (share r - share t) one_unit) one_unit (pow_pos (low binary64)) (over-value p P) (over-value r R)
        (le_of_mul-le-mul_right
        (le-value (over p) (over r) (grid binary64 (share p - share t) one_unit) one_unit (grid binary64 (share r - share t) one_unit) one_unit (pow_pos (low binary64)) (pow_pos (low binary64)) (over-value p P) (over-value r R)
        (round_mono binary64 (share p - share t) one_unit (share r - share t) one_unit (pow_pos (low binary64)) (pow_pos (low binary64)) (mul-le-mul_right one_unit (less_minus (share p) (share r) (share t) (share_le p r m R)))))
        (pow_pos (low binary64)))
        k
