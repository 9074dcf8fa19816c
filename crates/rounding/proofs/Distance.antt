-- Two facts of `distance` and of `ratio`. Assumes nothing.
use mathlib.Core.Path.{◌≡◌, refl, sym, ap, ◌∙◌, subst}
use Prim.Native.Nat.{ℕ, ◌-◌, ◌*◌, ◌^◌, ◌≤◌, ◌<◌, zero-le}
use native.Mathlib.Nat.{le-mul_of_pos_right, ne_of_gt, mul_assoc, mul_comm, mul_left_comm, le_refl, le_of_lt, le_of_eq, le_trans, lt_of_lt_of_le, mul-pos, mul-one, zero-mul, sub_self}
use mathlib.Core.Bool.{Bool, true, false, not, cond, true≢false}
use borrow.Author.Tests.{le-ltb, ne_eqb}
use lib.IntN.{pos}
use lib.Dec.{T, ltb→lt, ltb, eqb, lit<, lit≤}
use lib.Ieee.{Float, nan, inf, fin, binary64, up, down, round, neg, sum, sub, div, lt, le, of_int}
use lib.Ieee.Fits.{up_pos, down_pos}
use lib.Ieee.Exact.{HasValue}
use lib.Ieee.Positive.{positive_of_value}
use lib.Ieee.Scale.{round_same, finite}
use Rattle.rounding.specs.Round.{zero64}
use Rattle.rounding.specs.Distance.{distance, ratio}
use Rattle.rounding.proofs.Floats.{of-int, zero_is, rounded_within}

-- ---- a distance is never below zero
pub not_under : (a e : ℕ) → ltb (a * 1) (0 * 1 * e) ≡ false
not_under a e = le-ltb (a * 1) (0 * 1 * e) (le_trans (le_of_eq (zero-mul e)) zero-le)

-- with b what the test d < 0 found
turned : (d : Float) (b : Bool) → lt d zero64 ≡ b → lt (cond b (neg d) d) zero64 ≡ false
unfolding lt neg
turned nan true t = refl
turned (inf true) true t = refl
turned (inf false) true t = sym t
turned (fin true m e) true t = not_under (m * up e) (down e)
turned (fin false m e) true t = absurd (true≢false (sym t ∙ not_under (m * up e) (down e)))
turned d false t = t

pub distance_not_below_zero : (a b : Float) → lt (distance a b) zero64 ≡ false
unfolding distance
distance_not_below_zero a b = turned (sub binary64 a b) (lt (sub binary64 a b) zero64) refl

-- ---- the distance of a finite value from itself is +0
nothing : (c : ℕ) → 0 < c → (a : ℕ) → round binary64 false (a - a) c ≡ zero64
nothing c C a =
    ap (λ (x : ℕ). round binary64 false x c) (sub_self a)
    ∙ round_same binary64 false 0 c 0 1 C (lit< tt) (sym (zero-mul c))
    ∙ zero_is false

cancels : (s : Bool) (a c : ℕ) → 0 < c → sum binary64 s a (not s) a c ≡ zero64
unfolding sum
cancels true a c C = rw (le-ltb a a (le_refl a)) (nothing c C a)
cancels false a c C = rw (le-ltb a a (le_refl a)) (nothing c C a)

self_sub : (x : Float) → T (finite x) → sub binary64 x x ≡ zero64
unfolding sub
self_sub nan h = absurd h
self_sub (inf s) h = absurd h
self_sub (fin s m e) h = cancels s (m * up e * down e) (down e * down e) (mul-pos (down_pos e) (down_pos e))

pub distance_self : (x : Float) → T (finite x) → distance x x ≡ zero64
unfolding distance
distance_self x h = ap (λ (d : Float). cond (lt d zero64) (neg d) d) (self_sub x h) ∙ unfold lt in refl

-- ---- p / q as the program works it out is the fraction p / q, rounded once
cross : (a d b c p q : ℕ) → a * 1 ≡ p * d → b * 1 ≡ q * c → a * c * q ≡ p * (b * d)
cross a d b c p q h k =
    let a' : a ≡ p * d = sym (mul-one a) ∙ h in
    let b' : b ≡ q * c = sym (mul-one b) ∙ k in
    rw (a', b') (simp (mul_assoc, mul_comm, mul_left_comm))

pick_second : (b : Bool) (x y : Float) → b ≡ false → cond b x y ≡ y
pick_second true x y e = absurd (true≢false e)
pick_second false x y e = refl

ratio_of : (x y : Float) (p q : ℕ) → 0 < q → HasValue x false p 1 → HasValue y false q 1 → div binary64 x y ≡ round binary64 false p q
unfolding div
ratio_of nan y p q Q h k = absurd h
ratio_of (inf s) y p q Q h k = absurd h
ratio_of (fin s m e) nan p q Q h k = absurd k
ratio_of (fin s m e) (inf t) p q Q h k = absurd k
ratio_of (fin true m e) (fin t n g) p q Q h k = absurd (true≢false h.0)
ratio_of (fin false m e) (fin true n g) p q Q h k = absurd (true≢false k.0)
ratio_of (fin false m e) (fin false n g) p q Q h k =
    let N : 0 < n = ltb→lt 0 n (positive_of_value (fin false n g) q 1 k Q) in
    pick_second (eqb n 0) _ (round binary64 false (m * up e * down g) (n * up g * down e)) (ne_eqb n 0 (ne_of_gt N))
    ∙ round_same binary64 false (m * up e * down g) (n * up g * down e) p q (mul-pos (mul-pos N (up_pos g)) (down_pos e)) Q (cross (m * up e) (down e) (n * up g) (down g) p q h.1 k.1)

pub ratio-is : (p q : ℕ) → p ≤ 2 ^ 53 → 0 < q → q ≤ 2 ^ 53 → ratio p q ≡ round binary64 false p q
ratio-is p q P Z Q = ratio_of (of_int binary64 (pos p)) (of_int binary64 (pos q)) p q Z (of-int p P) (of-int q Q)

pub finite_of : (z : Float) → T (le zero64 z) → T (lt z (fin false 1 (pos 31))) → T (finite z)
finite_of nan h k = unfold le in h
finite_of (inf true) h k = unfold le in h
finite_of (inf false) h k = unfold lt in k
finite_of (fin s m e) h k = tt

pub rounded_finite : (p q : ℕ) → p < 2 ^ 31 → 0 < q → T (finite (round binary64 false p q))
rounded_finite p q P Q = let w = rounded_within p q p Q P (le-mul_of_pos_right p Q) in finite_of (round binary64 false p q) w.0 w.1

-- the distance of p / q from itself is +0
pub same-ratio : (p q : ℕ) → p < 2 ^ 31 → 0 < q → q ≤ 2 ^ 53 → distance (ratio p q) (ratio p q) ≡ zero64
same-ratio p q P Z Q =
    distance_self (ratio p q) (subst (λ (x : Float). T (finite x)) (sym (ratio-is p q (le_of_lt (lt_of_lt_of_le P (lit≤ tt))) Z Q)) (rounded_finite p q P Z))
