-- `round_even` is the nearest whole number, a half to the even one: it lies at most one half from its value, and where it lies
-- one half from it, it is even. Assumes nothing.
use mathlib.Core.Path.{◌≡◌, refl, sym, ap, ◌∙◌, subst}
use mathlib.Core.Bool.{false}
use Prim.Native.Nat.{ℕ, zero, suc, ◌+◌, ◌-◌, ◌*◌, ◌/◌, ◌%◌, ◌≤◌, ◌<◌, compare, Ordering}
use native.Mathlib.Nat.{add-mul, one-mul, mul_assoc, div-add-mod', mod-lt}
use native.Mathlib.Omega.{arith}
use lib.IntN.{ℤ}
use lib.Ieee.{fin, up, down}
use lib.Ieee.Fits.{down_pos}
use lib.Ieee.Nearest.{closest}
use Rattle.rounding.specs.Round.{round_even}
use Rattle.rounding.proofs.Floats.{Cmp, cmp, closest_by}

-- r is the whole number nearest to n / d, a half to the even one
pub record Nearest (n d r : ℕ) : Type 0 where
  pub near : 2 * (n - r * d + (r * d - n)) ≤ d
  pub even : 2 * (n - r * d + (r * d - n)) ≡ d → r % 2 ≡ 0

twice : (t d : ℕ) → (2 * t + 1) * d ≡ 2 * (t * d) + d
twice t d = add-mul (2 * t) 1 d ∙ ap (λ (x : ℕ). x + 1 * d) (mul_assoc 2 t d) ∙ ap (λ (x : ℕ). 2 * (t * d) + x) (one-mul d)

one_more : (t d : ℕ) → (t + 1) * d ≡ t * d + d
one_more t d = add-mul t 1 d ∙ ap (λ (x : ℕ). t * d + x) (one-mul d)

-- the three places of n / d against the half above its whole part t
below_half : (n d t s r : ℕ) → 0 < d → t * d + s ≡ n → s < d → n * 2 < (2 * t + 1) * d → r ≡ t → Nearest n d r
below_half n d t s r D e l h q =
    subst (λ (x : ℕ). Nearest n d x) (sym q)
    record { near = omega (arith, twice t d); even = λ (z : 2 * (n - t * d + (t * d - n)) ≡ d). absurd (omega (arith, twice t d)) }

above_half : (n d t s r : ℕ) → 0 < d → t * d + s ≡ n → s < d → (2 * t + 1) * d < n * 2 → r ≡ t + 1 → Nearest n d r
above_half n d t s r D e l h q =
    subst (λ (x : ℕ). Nearest n d x) (sym q)
    record {
      near = omega (arith, twice t d, one_more t d);
      even = λ (z : 2 * (n - (t + 1) * d + ((t + 1) * d - n)) ≡ d). absurd (omega (arith, twice t d, one_more t d));
    }

at-half : (n d t s r : ℕ) → 0 < d → t * d + s ≡ n → s < d → n * 2 ≡ (2 * t + 1) * d → r ≡ t + t % 2 → Nearest n d r
at-half n d t s r D e l h q = go (t % 2) refl
  where
    go : (k : ℕ) → t % 2 ≡ k → Nearest n d r
    go zero z = let f : r ≡ t = omega arith in subst (λ (x : ℕ). Nearest n d x) (sym f) record { near = omega (arith, twice t d); even = λ (y : 2 * (n - t * d + (t * d - n)) ≡ d). z }
    go (suc zero) z =
        let f : r ≡ t + 1 = omega arith in
        subst (λ (x : ℕ). Nearest n d x) (sym f)
        record { near = omega (arith, twice t d, one_more t d); even = λ (y : 2 * (n - (t + 1) * d + ((t + 1) * d - n)) ≡ d). omega arith }
    go (suc (suc k)) z = absurd (omega arith)

pub closest-nearest : (n d : ℕ) → 0 < d → Nearest n d (closest n d)
closest-nearest n d D = go (compare (n * 2) ((2 * (n / d) + 1) * d)) (cmp (n * 2) ((2 * (n / d) + 1) * d))
  where
    go : (o : Ordering) → Cmp o (n * 2) ((2 * (n / d) + 1) * d) → Nearest n d (closest n d)
    go Ordering.lt h = below_half n d (n / d) (n % d) (closest n d) D (div-add-mod' n d) (mod-lt n D) h ((closest_by n d).0 h)
    go Ordering.eq h = at-half n d (n / d) (n % d) (closest n d) D (div-add-mod' n d) (mod-lt n D) h ((closest_by n d).2 h)
    go Ordering.gt h = above_half n d (n / d) (n % d) (closest n d) D (div-add-mod' n d) (mod-lt n D) h ((closest_by n d).1 h)

-- of each f64 that is not negative
pub round_even-nearest : (m : ℕ) (e : ℤ) → Nearest (m * up e) (down e) (round_even (fin false m e))
unfolding round_even
round_even-nearest m e = closest-nearest (m * up e) (down e) (down_pos e)
