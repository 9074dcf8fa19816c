-- The difference of two numbers of points as an i32, and an i32 and its bits. Assumes nothing.
use Prim.Native.Nat.{ℕ, zero, suc, ◌+◌, ◌-◌, ◌≤◌, ◌<◌}
use mathlib.Core.Path.{◌≡◌, refl, sym, ap₂, ◌∙◌, subst}
use mathlib.Core.Bool.{Bool, true, false, cond}
use native.Mathlib.Nat.{add-zero, sub-zero}
use native.Mathlib.Omega.{arith}
use borrow.Author.Tests.{lt-ltb, le-ltb, ltb-true, ltb-false}
use lib.Dec.{ltb}
use lib.IntN.{ℤ, pos, negsuc, sub_ℕ, nat_abs, ◌-ℤ◌}
use mir.Syntax.{w32}
use mir.Val.{SFits, to_z, of_z}
use mir.ValLaws.{to_z-of_z}
use Rattle.units.specs.Gap.{gap}
use Rattle.points_left.specs.Left.{most31, bits_of, signed_of}

-- ---- The difference.

-- its size is how far the two lie apart
pub size_gap : (T p : ℕ) → nat_abs (sub_ℕ T p) ≡ gap p T
unfolding gap
size_gap T p = go (ltb T p) refl
  where
    go : (b : Bool) → ltb T p ≡ b → nat_abs (cond b (negsuc (p - suc T)) (pos (T - p))) ≡ (p - T) + (T - p)
    go true e = let l = ltb-true T p e in omega arith
    go false e = let l = ltb-false T p e in omega arith

pub size_within : (T p : ℕ) → T ≤ most31 → p ≤ most31 → nat_abs (sub_ℕ T p) ≤ most31
unfolding gap
size_within T p h k = rw (size_gap T p) (omega arith)

small : (n : ℕ) → n ≤ most31 → SFits w32 (pos n)
small n h = record { sfits = omega arith }

difference : (a b : ℕ) → pos a -ℤ pos b ≡ sub_ℕ a b
difference a zero = rw (le-ltb a 0 (omega arith), add-zero, sub-zero)
difference a (suc b) = refl

module _ (a b : ℕ) (h : a ≤ most31) (k : b ≤ most31) where
  read : to_z w32 a -ℤ to_z w32 b ≡ sub_ℕ a b
  read = ap₂ (λ (x y : ℤ). x -ℤ y) (to_z-of_z w32 (pos a) (small a h)) (to_z-of_z w32 (pos b) (small b k)) ∙ difference a b

  pub left-fits : SFits w32 (to_z w32 a -ℤ to_z w32 b)
  left-fits = subst (SFits w32) (sym read) (go (ltb a b))
    where
      go : (t : Bool) → SFits w32 (cond t (negsuc (b - suc a)) (pos (a - b)))
      go true = record { sfits = omega arith }
      go false = record { sfits = omega arith }

  pub left_is : to_z w32 (of_z w32 (to_z w32 a -ℤ to_z w32 b)) ≡ sub_ℕ a b
  left_is = to_z-of_z w32 _ left-fits ∙ read

-- ---- An i32 and its bits, each found again from the other.

pub signed_bits : (z : ℤ) → nat_abs z ≤ most31 → signed_of (bits_of z) ≡ z
signed_bits (pos n) h = rw (lt-ltb n 2_147_483_648 (omega arith))
signed_bits (negsuc n) h =
    let e : 4_294_967_295 - (4_294_967_295 - n) ≡ n = omega arith in
    rw (le-ltb (4_294_967_295 - n) 2_147_483_648 (omega arith), e)

pub bits_signed : (n : ℕ) → n ≤ 4_294_967_295 → bits_of (signed_of n) ≡ n
bits_signed n h = go (ltb n 2_147_483_648)
  where
    go : (t : Bool) → bits_of (cond t (pos n) (negsuc (4_294_967_295 - n))) ≡ n
    go true = refl
    go false = omega arith

pub bits_fit : (z : ℤ) → nat_abs z ≤ most31 → bits_of z < 4_294_967_296
bits_fit (pos n) h = omega arith
bits_fit (negsuc n) h = omega arith
