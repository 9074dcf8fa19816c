-- Document 01, score_state.rs: "Weights: w = 60 if classic, else 61, for n320; then 60, 40, 20, 10; a miss 0. Points = sum of
-- count times weight".
-- Counts and weights are lists, from n320 to n50, so that what is said of them holds for any weights.
use Rattle.std.specs.Prelude.{ℕ, ◌+◌, ◌*◌, ◌≤◌, Bool, cond, List, [], ◌∷◌}
use Rattle.units.specs.Limits.{most_weight}
use Rattle.score_state.specs.declared.HitResults.{HitResults}
use Rattle.score_state.specs.declared.Weights.{Weights}

-- the weight of n320
abbrev pub perfect_weight : Bool → ℕ
perfect_weight classic = cond classic 60 61

-- a standard weighting, from n320 to n50
abbrev pub standard : Bool → List ℕ
standard classic = perfect_weight classic ∷ 60 ∷ 40 ∷ 20 ∷ 10 ∷ []

-- the sum of counts
unfoldable pub hits : List ℕ → ℕ
hits [] = 0
hits (x ∷ xs) = x + hits xs

-- the sum of count times weight
unfoldable pub points : List ℕ → List ℕ → ℕ
points [] xs = 0
points (w ∷ ws) [] = 0
points (w ∷ ws) (x ∷ xs) = w * x + points ws xs

-- the weights and the five counts that are no misses, of the code's structs
abbrev pub weights_of : Weights → List ℕ
weights_of w = w.n320 ∷ w.n300 ∷ w.n200 ∷ w.n100 ∷ w.n50 ∷ []

abbrev pub counts_of : HitResults → List ℕ
counts_of r = r.n320 ∷ r.n300 ∷ r.n200 ∷ r.n100 ∷ r.n50 ∷ []

-- `ManiaHitResults::total_hits`: all six
abbrev pub total_hits : HitResults → ℕ
total_hits r = hits (counts_of r) + r.misses

-- weights of at most 100 each, so that points fit
pub record Light (w : Weights) : Type 0 where
  pub n320 : w.n320 ≤ most_weight
  pub n300 : w.n300 ≤ most_weight
  pub n200 : w.n200 ≤ most_weight
  pub n100 : w.n100 ≤ most_weight
  pub n50 : w.n50 ≤ most_weight
