-- A bit pattern is a NaN's where what is left of the sign lies above that of an infinity.
-- Assumes nothing.
use mathlib.Core.Path.{◌≡◌}
use mathlib.Core.Bool.{Bool, true, false, not, ◌&&◌}
use Prim.Native.Nat.{ℕ, ◌/◌, ◌%◌, ◌≤◌, ◌<◌}
use native.Mathlib.Omega.{arith}
use lib.Dec.{T, eqb, eqb→eq}
use borrow.Author.Tests.{eq-eqb, ne_eqb}
use lib.Ieee.{nan, binary64, div, of_bits, of_fields, nan_bits}

not_both : (p q : Bool) → (T p → q ≡ false) → T (not (p && q))
not_both true q h = rw (h tt) tt
not_both false q h = tt

pub no_nan : (b : ℕ) → b % 0x8000000000000000 ≤ 0x7ff0000000000000 → T (not (nan_bits binary64 b))
unfolding nan_bits
no_nan b h =
    not_both (eqb (b % 0x8000000000000000 / 0x10000000000000) 2047) (not (eqb (b % 0x10000000000000) 0))
    (λ t. let e : b % 0x8000000000000000 / 0x10000000000000 ≡ 2047 = eqb→eq (b % 0x8000000000000000 / 0x10000000000000) 2047 t in
    rw (eq-eqb (b % 0x10000000000000) 0 (omega arith)))

pub a_nan : (b : ℕ) → 0x7ff0000000000000 < b % 0x8000000000000000 → nan ≡ of_bits binary64 b
unfolding of_bits of_fields
a_nan b h =
    let e : b % 0x8000000000000000 / 0x10000000000000 ≡ 2047 = omega arith in
    let n : eqb (b % 0x10000000000000) 0 ≡ false = ne_eqb (b % 0x10000000000000) 0 (λ z. omega arith) in
    rw (e, n)

-- what zero by zero gives
pub zero_by_zero : (b : ℕ) → 0x7ff0000000000000 < b % 0x8000000000000000 → div binary64 (of_bits binary64 0) (of_bits binary64 0) ≡ of_bits binary64 b
unfolding div of_bits
zero_by_zero b h = a_nan b h
