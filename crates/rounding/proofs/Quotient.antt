-- A whole quotient rounded up and to the nearest, from its floor and remainder. Assumes nothing.
use Prim.Native.Nat.{ℕ, ◌+◌, ◌-◌, ◌*◌, ◌/◌, ◌%◌, ◌<◌, ◌≤◌}
use mathlib.Core.Path.{◌≡◌, sym, ap, ◌∙◌}
use native.Mathlib.Nat.{div-le_self, add-mul, mul_assoc, one-mul, div-add-mod'}
use native.Mathlib.Omega.{arith}
use lib.Ieee.Nearest.{closest}
use Rattle.rounding.specs.Quotient.{rounded_up}
use Rattle.rounding.proofs.Floats.{closest_by}

-- a quotient to the nearest, by twice its remainder
half-above : (x y : ℕ) → (2 * (x / y) + 1) * y ≡ 2 * (x / y * y) + y
half-above x y = add-mul (2 * (x / y)) 1 y ∙ ap (λ (z : ℕ). z + 1 * y) (mul_assoc 2 (x / y) y) ∙ ap (λ (z : ℕ). 2 * (x / y * y) + z) (one-mul y)

pub rounds_down : (x y : ℕ) → x % y * 2 < y → x / y ≡ closest x y
rounds_down x y h = sym ((closest_by x y).0 (omega (arith, half-above x y, div-add-mod' x y)))

pub rounds_up : (x y : ℕ) → y < x % y * 2 → x / y + 1 ≡ closest x y
rounds_up x y h = sym ((closest_by x y).1 (omega (arith, half-above x y, div-add-mod' x y)))

pub rounds_even : (x y : ℕ) → x % y * 2 ≡ y → x / y + x / y % 2 ≡ closest x y
rounds_even x y h = sym ((closest_by x y).2 (omega (arith, half-above x y, div-add-mod' x y)))

pub rounded_up-le : (x y : ℕ) → 0 < y → rounded_up x y ≤ x + y
unfolding rounded_up
rounded_up-le x y h = omega (arith, div-le_self (x + (y - 1)) y)
