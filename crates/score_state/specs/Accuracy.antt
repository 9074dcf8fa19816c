-- Document 01, score_state.rs: "`accuracy` = points / (w times all six counts) as one f64 division, 0.0 for no hits"
-- (`ManiaHitResults::accuracy` of score_state.rs), and Where a row or sheet stops: `accuracy` refuses "by 10", "a count over 1,000,000".
use Rattle.std.specs.Prelude.{ℕ, ◌*◌, ◌≤◌, Bool, cond, ◌||◌, eqb, ltb, Float}
use Rattle.rounding.specs.Round.{zero64}
use Rattle.rounding.specs.Distance.{ratio}
use Rattle.score_state.specs.Answer.{Answer, worked, refused}
use Rattle.score_state.specs.Points.{perfect_weight, standard, points, counts_of, total_hits}
use Rattle.score_state.specs.declared.HitResults.{HitResults}

-- the accuracy of six counts
unfoldable pub accuracy_of : HitResults → Bool → Float
accuracy_of r classic =
    cond (eqb (total_hits r) 0) zero64
    (ratio (points (standard classic) (counts_of r)) (perfect_weight classic * total_hits r))

-- the largest count that is let through
abbrev pub cap : ℕ
cap = 1_000_000

-- check 10 of a record of six: one of them is over the cap
unfoldable pub over_cap : HitResults → Bool
over_cap r = ltb cap r.n320 || ltb cap r.n300 || ltb cap r.n200 || ltb cap r.n100 || ltb cap r.n50 || ltb cap r.misses

-- what check 10 leaves: none of them is
pub record Capped (r : HitResults) : Type 0 where
  pub n320 : r.n320 ≤ cap
  pub n300 : r.n300 ≤ cap
  pub n200 : r.n200 ≤ cap
  pub n100 : r.n100 ≤ cap
  pub n50 : r.n50 ≤ cap
  pub misses : r.misses ≤ cap

-- what `accuracy` answers
unfoldable pub accuracy_answer : HitResults → Bool → Answer Float
accuracy_answer r classic = cond (over_cap r) (refused 10) (worked (accuracy_of r classic))
