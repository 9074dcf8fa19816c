-- Document 02, L8: "For two method 3 rows with status 0, under the same weights, of the same chart and alike but for acc, if the rounded
-- target of one is at least the other's, so are its points. It must hold for every weighting and presence pattern, and equal targets
-- must give the same six counts." Here of the rows of a sheet and the bytes written for them; over the walk's result, and for every
-- weighting, it stands in nearest_laws/specs/Rising.antt.
use Rattle.std.specs.Prelude.{ℕ, ◌≤◌, ◌<◌, ◌≡◌, List, take}
use Rattle.std.specs.Float.{binary64}
use Rattle.std.specs.Float.Ieee.{of_bits}
use Rattle.score_state.specs.Points.{points}
use Rattle.score_state.specs.Answer.{Answer, status_of, values_of}
use Rattle.records.specs.declared.Row.{Row}
use Rattle.generate_laws.specs.Generate.{target_of}
use Rattle.generate_laws.specs.Method3.{five_of}
use Rattle.answers.specs.Answers.{written}
use Rattle.sheets_laws.specs.Sheets.{query_count}
use Rattle.sheets_laws.specs.Demand3.{row, inspected, weights_for}

-- a row with another acc
abbrev pub with_acc : ℕ → Row → Row
with_acc a r =
    record {
      chart = r.chart;
      method = r.method;
      priority = r.priority;
      classic = r.classic;
      presence = r.presence;
      holds_given = r.holds_given;
      zero = r.zero;
      n320 = r.n320;
      n300 = r.n300;
      n200 = r.n200;
      n100 = r.n100;
      n50 = r.n50;
      misses = r.misses;
      passed = r.passed;
      acc = a;
      holds_passed = r.holds_passed;
    }

-- an answer's six counts
abbrev pub six_of : Answer (List ℕ) → List ℕ
six_of a = take 6 (values_of a)

-- the rounded target of row k, whose accuracy has the bits of its field acc
abbrev pub target_at : List ℕ → ℕ → ℕ
target_at s k = target_of (weights_for s k) (inspected s k) (of_bits binary64 (row s k).acc)

-- the points of row k's counts as written
abbrev pub points_at : List ℕ → List ℕ → ℕ → ℕ
points_at s out k = points (weights_for s k) (five_of (written out k))

-- "two method 3 rows with status 0, under the same weights, of the same chart and alike but for acc": the rows j and k. A row's own
-- fields name its chart and, where the sheet has no own weights, its weights.
pub record AlikeButForAcc (s out : List ℕ) (j k : ℕ) : Type 0 where
  pub first : j < query_count s
  pub second : k < query_count s
  pub method : (row s j).method ≡ 3
  pub alike : with_acc (row s k).acc (row s j) ≡ row s k
  pub first-status : status_of (written out j) ≡ 0
  pub second-status : status_of (written out k) ≡ 0

-- The request, of a sheet and the bytes of the output at the end.
pub record RisingRows (s out : List ℕ) : Type 0 where
  -- "if the rounded target of one is at least the other's, so are its points"
  pub raised : (j k : ℕ) → AlikeButForAcc s out j k → target_at s j ≤ target_at s k → points_at s out j ≤ points_at s out k
  -- "equal targets must give the same six counts"
  pub same : (j k : ℕ) → AlikeButForAcc s out j k → target_at s j ≡ target_at s k → six_of (written out j) ≡ six_of (written out k)
