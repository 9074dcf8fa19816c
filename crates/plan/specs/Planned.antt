-- Document 01, Nearest, steps 1 and 2, on a presence number, whose bits N320 to N50 say which counts are given. A missing count's number
-- plays no part.
use Rattle.std.specs.Prelude.{ℕ, ◌+◌, Bool, true, false, cond, not, ◌&&◌, List, [], ◌∷◌, ◌≡◌, eqb}
use Rattle.score_state.specs.Points.{weights_of}
use Rattle.score_state.specs.Given.{missing}
use Rattle.score_state.specs.declared.HitResults.{HitResults}
use Rattle.score_state.specs.declared.Weights.{Weights}
use Rattle.units.specs.declared.Points.{Points}
use Rattle.inspect.specs.Presence.{has, given, givens_of}
use Rattle.nearest_laws.specs.Walk.{last_of}
use Rattle.nearest_laws.specs.Places.{slot_of}
use Rattle.stride_rows.specs.Strides.{first_of}
use Rattle.walk.specs.Code.{middle_of}
use Rattle.walk.specs.declared.Plan.{Plan}

-- whether two lists are the same
abbrev pub same : List ℕ → List ℕ → Bool
same [] [] = true
same [] (y ∷ ys) = false
same (x ∷ xs) [] = false
same (x ∷ xs) (y ∷ ys) = eqb x y && same xs ys

-- step 1: where n320 and n300 are missing and weigh the same, n300 counts as given
unfoldable pub folded_of : Weights → ℕ → ℕ
folded_of w p = cond (not (has p 1) && (not (has p 2) && eqb w.n320 w.n300)) (p + 2) p

-- a and c: the heaviest and the lightest weight that are missing
pub record Ends (w : Weights) (p a c : ℕ) : Type 0 where
  pub heaviest : (g : HitResults) → a ≡ first_of 0 (missing (weights_of w) (givens_of p g))
  pub lightest : (g : HitResults) → c ≡ last_of 0 (missing (weights_of w) (givens_of p g))

-- the plan of a walk: a and c, the middles between them, and the target
pub record Planned (w : Weights) (p : ℕ) (T : Points) (plan : Plan) : Type 0 where
  pub ends : Ends w p plan.a plan.c
  pub n300 : (n : ℕ) → middle_of plan.n300 ≡ slot_of plan.a plan.c w.n300 (given (has p 2) n)
  pub n200 : (n : ℕ) → middle_of plan.n200 ≡ slot_of plan.a plan.c w.n200 (given (has p 4) n)
  pub n100 : (n : ℕ) → middle_of plan.n100 ≡ slot_of plan.a plan.c w.n100 (given (has p 8) n)
  pub target : plan.target ≡ T
