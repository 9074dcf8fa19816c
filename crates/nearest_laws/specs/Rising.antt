-- Document 02, L8, "stated over the walk's result": "under the same weights, of the same chart and alike but for acc, if the rounded
-- target of one is at least the other's, so are its points. It must hold for every weighting and presence pattern, and equal targets
-- must give the same six counts."
use Rattle.std.specs.Prelude.{ℕ, ◌≤◌, ◌≡◌, List}
use Rattle.std.proofs.Math.Option.{Option, some}
use Rattle.score_state.specs.Points.{points}
use Rattle.nearest_laws.specs.Nearest.{Found, nearest}

-- Of the weights ws, the counts gs of the query, some of them given, and the remaining hits, which two queries alike but for acc have
-- in common: f is the answer at the rounded target T, g that at U.
pub record Rising (ws : List ℕ) (gs : List (Option ℕ)) (remain : ℕ) : Type 0 where
  -- "if the rounded target of one is at least the other's, so are its points"
  pub raised
      : (T U : ℕ) (f g : Found) → nearest ws gs T remain ≡ some f → nearest ws gs U remain ≡ some g → T ≤ U
      → points ws f.counts ≤ points ws g.counts
  -- "equal targets must give the same six counts": the walk's five (the sixth, misses, is the query's own)
  pub same : (T U : ℕ) (f g : Found) → nearest ws gs T remain ≡ some f → nearest ws gs U remain ≡ some g → T ≡ U → f.counts ≡ g.counts
