-- The presence number and the five numbers beside it, as the definition's optional counts.
use Prim.Native.Nat.{ℕ, ◌+◌}
use mathlib.Core.Bool.{Bool, true, false, cond}
use mathlib.Core.List.{List, [], ◌∷◌}
use mathlib.Core.Option.{Option}
use mathlib.Core.Path.{◌≡◌, refl, sym, ap, ◌∙◌}
use lib.Dec.{eqb}
use native.Mathlib.Nat.{add-zero, zero-add}
use native.Mathlib.Omega.{arith}
use borrow.Author.Tests.{ne_eqb}
use Rattle.score_state.specs.Points.{hits, points, weights_of, counts_of, total_hits}
use Rattle.score_state.specs.Given.{or, given_hits, given_points}
use Rattle.score_state.specs.declared.HitResults.{HitResults}
use Rattle.score_state.specs.declared.Weights.{Weights}
use Rattle.inspect.specs.Presence.{has, given, givens_of, lacking, lacks, unwrap_or_zero}
use Rattle.nearest_laws.specs.Nearest.{fold, all_given}
use Rattle.plan.specs.Planned.{folded_of}
use Rattle.plan.proofs.Fold.{folded_five}

-- ---- How many are missing.

-- "five given"
given_step : (b : Bool) (n k : ℕ) (gs : List (Option ℕ)) → all_given gs ≡ eqb k 0 → all_given (given b n ∷ gs) ≡ eqb (lacks b + k) 0
unfolding all_given
given_step true n k gs e = rw zero-add e
given_step false n k gs e = sym (ne_eqb (1 + k) 0 (λ z. omega arith))

given-none : all_given [] ≡ eqb 0 0
unfolding all_given
given-none = refl

pub five-given : (p : ℕ) (g : HitResults) → all_given (givens_of p g) ≡ eqb (lacking p) 0
unfolding lacking
five-given p g =
    given_step (has p 1) g.n320 _ _
    (given_step (has p 2) g.n300 _ _
    (given_step (has p 4) g.n200 _ _ (given_step (has p 8) g.n100 _ _ (given_step (has p 16) g.n50 0 [] given-none))))

-- ---- The numbers with 0 for a missing one.

pub unwrap_or : (b : Bool) (n : ℕ) → cond b n 0 ≡ or (given b n) 0
unfolding or
unwrap_or true n = refl
unwrap_or false n = refl

unwrap_given : (b : Bool) (n : ℕ) → given b (cond b n 0) ≡ given b n
unwrap_given true n = refl
unwrap_given false n = refl

pub unwrap_hits : (p : ℕ) (g : HitResults) → g.misses ≡ 0 → total_hits (unwrap_or_zero p g) ≡ given_hits (givens_of p g)
unfolding hits given_hits unwrap_or_zero
unwrap_hits p g e = rw (e, add-zero) (simp unwrap_or refl)

pub unwrap_points : (w : Weights) (p : ℕ) (g : HitResults) → points (weights_of w) (counts_of (unwrap_or_zero p g)) ≡ given_points (weights_of w) (givens_of p g)
unfolding points given_points unwrap_or_zero
unwrap_points w p g = simp unwrap_or refl

-- ---- Step 1.

unwrap_givens : (p : ℕ) (g : HitResults) → givens_of p (unwrap_or_zero p g) ≡ givens_of p g
unfolding unwrap_or_zero
unwrap_givens p g = simp unwrap_given refl

pub folded_is : (w : Weights) (p : ℕ) (g : HitResults) → givens_of (folded_of w p) (unwrap_or_zero p g) ≡ fold (weights_of w) (givens_of p g)
unfolding unwrap_or_zero
folded_is w p g =
    folded_five w p _ _ _ _ _ (λ h. rw h) ∙ ap (fold (weights_of w)) (unwrap_givens p g)
