-- The values that a range `lo..=hi` has left, from one turn of a loop over it to the next. Assumes nothing.
use Prim.Native.Nat.{ℕ, zero, suc, ◌+◌, ◌-◌}
use mathlib.Core.Path.{◌≡◌, refl, sym, ap, ◌∙◌}
use mathlib.Core.Bool.{Bool, true, false, cond}
use mathlib.Core.List.{List, [], ◌∷◌}
use native.Mathlib.Numerals.{add-one}
use native.Mathlib.Omega.{arith}
use Rattle.std.specs.Prelude.{Some, None}
use Rattle.std.specs.Range.{range_inclusive_start, range_inclusive_end, range_inclusive_exhausted, range_inclusive_len, range_inclusive_steps}
use Rattle.std.specs.declared.option.Option as Code
use Rattle.std.specs.declared.ops.RangeInclusive.{RangeInclusive}
use Rattle.closest_laws.specs.Loops.{from, range}
use Rattle.closest_points.specs.Code.{values_of}

-- what `next` says of a range of numbers
abbrev Steps : RangeInclusive ℕ → Code.Option ℕ → RangeInclusive ℕ → Type 0
Steps s r t = range_inclusive_steps (λ a b. b - a) (λ a b. b ≡ a + 1) s r t

-- how many values `a..=b` has left, and which
abbrev left : ℕ → ℕ → Bool → ℕ
left a b e = range_inclusive_len (λ x y. y - x) a b e

abbrev values : ℕ → ℕ → Bool → List ℕ
values a b e = cond e [] (range a b)

-- the first of a..=b is taken, and c..=d is left
taken : (a b c d : ℕ) (e f : Bool) → d ≡ b → left c d f + 1 ≡ left a b e → (f ≡ false → c ≡ a + 1) → values a b e ≡ a ∷ values c d f
unfolding range from
taken a b c d true f ed n g = absurd (omega (arith, n))
taken a b c d false false ed n g =
    let e : suc b - a ≡ suc (suc b - (a + 1)) = omega (arith, n, ed, g refl) in
    ap (λ (k : ℕ). from a k) e ∙ rw (ed, g refl) (ap (λ (k : ℕ). a ∷ from k (suc b - (a + 1))) (sym (add-one a)))
taken a b c d false true ed n g = let e : suc b - a ≡ suc zero = omega (arith, n) in ap (λ (k : ℕ). from a k) e

none : (a b : ℕ) (e : Bool) → left a b e ≡ 0 → values a b e ≡ []
unfolding range from
none a b true n = refl
none a b false n = let e : suc b - a ≡ zero = omega (arith, n) in ap (λ (k : ℕ). from a k) e

module _ (s t : RangeInclusive ℕ) where
  pub value_taken : (x : ℕ) → Steps s (Some x) t → values_of s ≡ x ∷ values_of t
  value_taken x h =
      rw h.1.0 (taken (range_inclusive_start s) (range_inclusive_end s) (range_inclusive_start t) (range_inclusive_end t) (range_inclusive_exhausted s) (range_inclusive_exhausted t) h.0 h.1.1 h.1.2)

  pub values_end : Steps s None t → values_of s ≡ []
  values_end h = none (range_inclusive_start s) (range_inclusive_end s) (range_inclusive_exhausted s) h.1.0
