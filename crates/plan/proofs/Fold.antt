-- Step 1 on the presence number is the definition's fold.
use Prim.Native.Nat.{ℕ, ◌+◌, ◌/◌, ◌%◌}
use mathlib.Core.Bool.{Bool, true, false, cond, not, ◌&&◌}
use mathlib.Core.List.{[], ◌∷◌}
use mathlib.Core.Option.{none, some}
use mathlib.Core.Path.{◌≡◌, refl, sym, ap, ◌∙◌}
use lib.Dec.{eqb}
use native.Mathlib.Omega.{arith}
use borrow.Author.Tests.{eqb-false, eq-eqb, ne_eqb}
use Rattle.score_state.specs.Points.{weights_of}
use Rattle.score_state.specs.declared.Weights.{Weights}
use Rattle.inspect.specs.Presence.{has, given, five_given}
use Rattle.nearest_laws.specs.Nearest.{fold}
use Rattle.plan.specs.Planned.{folded_of}

-- where n320 and n300 are missing: n300 is set to 0
module _ (p : ℕ) (e : has p 1 ≡ false) (f : has p 2 ≡ false) where
  low : p % 4 ≡ 0
  low =
      let d : p / 4 ≡ p / 2 / 2 = omega arith in
      omega (arith, eqb-false (p / 1 % 2) 1 e, eqb-false (p / 2 % 2) 1 f)

  bit : (k : ℕ) → (p + 2) / k % 2 ≡ p / k % 2 → has (p + 2) k ≡ has p k
  bit k h = ap (λ (n : ℕ). eqb n 1) h

  set : (n320 n300 n200 n100 n50 : ℕ) → five_given (p + 2) n320 n300 n200 n100 n50 ≡ none ∷ some n300 ∷ given (has p 4) n200 ∷ given (has p 8) n100 ∷ given (has p 16) n50 ∷ []
  set n320 n300 n200 n100 n50 =
      rw (
        ne_eqb ((p + 2) / 1 % 2) 1 (λ z. omega (arith, low)),
        eq-eqb ((p + 2) / 2 % 2) 1 (omega (arith, low)),
        bit 4 (omega (arith, low)),
        bit 8 (omega (arith, low)),
        bit 16 (omega (arith, low)),
      )

-- of five numbers where a missing n300 has 0
module _ (w : Weights) (p n320 n300 n200 n100 n50 : ℕ) (zero : has p 2 ≡ false → n300 ≡ 0) where
  pub folded_five : five_given (folded_of w p) n320 n300 n200 n100 n50 ≡ fold (weights_of w) (five_given p n320 n300 n200 n100 n50)
  unfolding folded_of fold
  folded_five = go (has p 1) refl (has p 2) refl (eqb w.n320 w.n300) refl
    where
      go
          : (x : Bool) → has p 1 ≡ x → (y : Bool) → has p 2 ≡ y → (b : Bool) → eqb w.n320 w.n300 ≡ b
          → five_given (cond (not x && (not y && b)) (p + 2) p) n320 n300 n200 n100 n50
          ≡ fold (weights_of w) (given x n320 ∷ given y n300 ∷ given (has p 4) n200 ∷ given (has p 8) n100 ∷ given (has p 16) n50 ∷ [])
      go true e y f b h = rw (e, f)
      go false e true f b h = rw (e, f)
      go false e false f true h = set p e f n320 n300 n200 n100 n50 ∙ sym (rw (h, zero f))
      go false e false f false h = rw (e, f, h)
