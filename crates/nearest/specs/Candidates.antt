-- Document 01, Nearest, steps 3 and 4: "With one missing judgement the single candidate is R", "With all five given and right, tried
-- is 0", and otherwise the walk's; and what the code asks to try them.
use Rattle.std.specs.Prelude.{ℕ, zero, suc, ◌<◌, ◌≤◌, List, [], ◌∷◌}
use Rattle.units.specs.Limits.{most_weight}
use Rattle.nearest_laws.specs.Walk.{Try}
use Rattle.walk.specs.Code.{unset, trial_of, each_n300, Slots, PointsFit}
use Rattle.walk.specs.declared.Plan.{Plan}

-- all candidates, by how many judgements are missing
abbrev pub candidates_of : ℕ → Plan → ℕ → ℕ → List Try
candidates_of zero p R g = []
candidates_of (suc zero) p R g = trial_of p (unset R g) R ∷ []
candidates_of (suc (suc n)) p R g = each_n300 p (unset R g)

-- What the walk of n missing judgements asks, with R hits to give and g points of the given counts.
pub record Walkable (n : ℕ) (p : Plan) (R g : ℕ) : Type 0 where
  pub apart : 2 ≤ n → p.c < p.a
  pub slots : Slots p
  pub light : p.a ≤ most_weight
  pub points : PointsFit p (unset R g)
