-- A difference a - b of floats, a from -0 up and b a whole number: where it is above zero it lies below 2 ^ 31, and where it is
-- not it rounds to 0. So `if x > 0.0 { round_ties_even(x) } else { 0 }` is `round_even x`. Assumes nothing.
use mathlib.Core.Path.{◌≡◌, refl, sym, ◌∙◌}
use Prim.Native.Nat.{ℕ, zero, suc, ◌+◌, ◌-◌, ◌*◌, ◌/◌, ◌%◌, ◌^◌, ◌≤◌, ◌<◌, compare, Ordering}
use native.Mathlib.Nat.{le_refl, le_trans, le_of_eq, le_of_lt, mul_assoc, mul-le-mul_right, mul-pos, sub-le, div-lt_iff_lt-mul}
use native.Mathlib.Omega.{arith}
use mathlib.Core.Bool.{Bool, true, false, cond, ◌||◌, true≢false}
use borrow.Author.Tests.{ltb-false}
use lib.IntN.{pos}
use lib.Dec.{T, ltb, lit<}
use lib.Ieee.{Float, nan, inf, fin, binary64, prec, emax, low, up, down, nearest, size, odd, units, round, sum, sub, lt, le}
use lib.Ieee.Fits.{down_pos}
use lib.Ieee.Exact.{HasValue}
use lib.Ieee.Nearest.{closest, closest_mono}
use Rattle.rounding.specs.Round.{round_even, zero64}
use Rattle.rounding.proofs.Floats.{Within, rounded_within}

-- ---- a rounded negative fraction is not above zero
odd_not_above : (d q k l : ℕ) → lt zero64 (odd d true q k l) ≡ false
unfolding odd lt
odd_not_above d zero k l = refl
odd_not_above d (suc q) k l = refl

pick_not_above : (b : Bool) (x : Float) → lt zero64 x ≡ false → lt zero64 (cond b x (inf true)) ≡ false
unfolding lt
pick_not_above true x h = h
pick_not_above false x h = refl

units_not_above : (q k : ℕ) → lt zero64 (units binary64 true q k) ≡ false
unfolding units
units_not_above q k =
    pick_not_above (ltb (q * 2 ^ k) (2 ^ (low binary64 + suc (emax binary64)))) (odd (suc (prec binary64)) true q k (low binary64))
    (odd_not_above (suc (prec binary64)) q k (low binary64))

negative_not_above : (a b : ℕ) → lt zero64 (round binary64 true a b) ≡ false
unfolding round
negative_not_above a b =
    let n = a * 2 ^ low binary64 in
    let k = size (n / b) - prec binary64 in
    let u = b * 2 ^ k in
    units_not_above (nearest (n / u) (compare (n % u * 2) u)) k

-- ---- what rounds to at most n is at most n + 1
nearest_up : (q : ℕ) (o : Ordering) → q ≤ nearest q o
nearest_up q Ordering.lt = le_refl q
nearest_up q Ordering.eq = omega arith
nearest_up q Ordering.gt = omega arith

below_next : (x d n : ℕ) → 0 < d → closest x d ≤ n → x ≤ (n + 1) * d
below_next x d n D h =
    let l : x / d ≤ n = le_trans (nearest_up (x / d) (compare (x % d * 2) d)) h in
    let m : x / d < n + 1 = omega arith in
    le_of_lt ((div-lt_iff_lt-mul D).0 m)

pick_below : (x : Bool) (y z : Float) → lt zero64 y ≡ false → T (lt z (fin false 1 (pos 31))) → lt zero64 (cond x y z) ≡ true → T (lt (cond x y z) (fin false 1 (pos 31)))
pick_below true y z h k t = absurd (true≢false (sym t ∙ h))
pick_below false y z h k t = k

pub difference_Below
    : (a b : Float) (n k : ℕ) → n + 1 < 2 ^ 31 → Within a n → HasValue b false k 1 → lt zero64 (sub binary64 a b) ≡ true
    → T (lt (sub binary64 a b) (fin false 1 (pos 31)))
unfolding sub sum round_even
difference_Below nan b n k N w v t = absurd (unfold le in w.0)
difference_Below (inf true) b n k N w v t = absurd (unfold le in w.0)
difference_Below (inf false) b n k N w v t = absurd (unfold lt in w.1)
difference_Below (fin s m e) nan n k N w v t = absurd v
difference_Below (fin s m e) (inf u) n k N w v t = absurd v
difference_Below (fin s m e) (fin true q g) n k N w v t = absurd (true≢false v.0)
difference_Below (fin true m e) (fin false q g) n k N w v t =
    absurd (true≢false (sym t ∙ negative_not_above (m * up e * down g + q * up g * down e) (down e * down g)))
difference_Below (fin false m e) (fin false q g) n k N w v t =
    let A = m * up e * down g in
    let B = q * up g * down e in
    let C = down e * down g in
    let l : A ≤ (n + 1) * C =
    le_trans (mul-le-mul_right (down g) (below_next (m * up e) (down e) n (down_pos e) w.2)) (le_of_eq (mul_assoc (n + 1) (down e) (down g))) in
    pick_below (ltb A B) (round binary64 true (B - A) C) (round binary64 false (A - B) C) (negative_not_above (B - A) C)
    (rounded_within (A - B) C (n + 1) (mul-pos (down_pos e) (down_pos g)) N (le_trans (sub-le A B) l)).1
    t

or_true : (a b : Bool) → a ≡ true → T (a || b)
or_true true b e = tt
or_true false b e = absurd (true≢false (sym e))

pub above_zero_le : (x : Float) → lt zero64 x ≡ true → T (le zero64 x)
unfolding le
above_zero_le x e = or_true (lt zero64 x) _ e

-- ---- what is not above zero counts as 0
pub not_above_rounds : (x : Float) → lt zero64 x ≡ false → 0 ≡ round_even x
unfolding round_even lt
not_above_rounds nan h = refl
not_above_rounds (inf s) h = refl
not_above_rounds (fin true m e) h = refl
not_above_rounds (fin false m e) h =
    let l : m * up e * 1 ≤ 0 * down e = ltb-false (0 * 1 * down e) (m * up e * 1) h in
    let c : closest (m * up e) (down e) ≤ 0 = closest_mono (m * up e) (down e) 0 1 (down_pos e) (lit< tt) l in
    omega arith
