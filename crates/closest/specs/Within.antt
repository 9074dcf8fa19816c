-- What the Rust's functions may rely on, of the arguments that `generate_hitresults` makes: a weight of n320, the target, what
-- remains, the presence number and the counts.
use Rattle.std.specs.Prelude.{ℕ, ◌+◌, ◌≤◌, ◌≡◌}
use Rattle.units.specs.Limits.{most_hits, most_points}
use Rattle.score_state.specs.Given.{or}
use Rattle.score_state.specs.Accuracy.{Capped}
use Rattle.score_state.specs.declared.HitResults.{HitResults}
use Rattle.inspect.specs.Presence.{has, given}

-- a play's numbers are within their limits, and a missing count is 0
pub record Within (w320 target remain presence : ℕ) (counts : HitResults) : Type 0 where
  pub heavy : 60 ≤ w320
  pub top : w320 ≤ 61
  pub hits : remain + counts.misses ≤ most_hits
  pub aim : target ≤ most_points
  pub few : Capped counts
  pub zero320 : or (given (has presence 1) counts.n320) 0 ≡ counts.n320
  pub zero300 : or (given (has presence 2) counts.n300) 0 ≡ counts.n300
  pub zero200 : or (given (has presence 4) counts.n200) 0 ≡ counts.n200
  pub zero100 : or (given (has presence 8) counts.n100) 0 ≡ counts.n100
  pub zero50 : or (given (has presence 16) counts.n50) 0 ≡ counts.n50
