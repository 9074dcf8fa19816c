-- Document 01, Where a row or sheet stops: 7 "objects or holds over 100,000"; 8 "unknown method, priority or classic"; 10 "a
-- count over 1,000,000"; 11 "acc outside 0 to 1"; and Records: "A given count, misses too, is at most 1,000,000; passed is any
-- u32. acc lies in 0 to 1; -0.0 counts as 0, NaN is outside."
use Rattle.std.specs.Prelude.{ℕ, ◌≤◌, Bool, false, not, cond, ◌&&◌, ◌||◌, T, ltb, Float}
use Rattle.std.proofs.Math.Option.{Option, none, some}
use Rattle.std.specs.Float.Ieee.{le}
use Rattle.rounding.specs.Round.{zero64, one64}
use Rattle.score_state.specs.Accuracy.{cap}
use Rattle.score_state.specs.Given.{or}
use Rattle.inspect.specs.Inspect.{Inspect, inspect_of}
use Rattle.inspect.specs.declared.Chart.{Chart}
use Rattle.inspect.specs.declared.Query.{Query}

-- the most objects and the most hold notes of a chart
abbrev pub chart_limit : ℕ
chart_limit = 100_000

-- check 7
unfoldable pub chart_over : Chart → Bool
chart_over c = ltb chart_limit c.n_objects || ltb chart_limit c.n_hold_notes

-- check 8: methods 0 to 3, priorities 0 and 1; classic is a boolean here
unfoldable pub unknown_code : ℕ → ℕ → Bool
unknown_code method priority = ltb 3 method || ltb 1 priority

-- check 10: of the given ones alone
unfoldable pub over_cap : Option ℕ → Bool
over_cap none = false
over_cap (some n) = ltb cap n

unfoldable pub count_over : Inspect → Bool
count_over i = over_cap i.n320 || over_cap i.n300 || over_cap i.n200 || over_cap i.n100 || over_cap i.n50 || over_cap i.misses

-- check 11: a comparison with NaN is false, so NaN is outside
unfoldable pub acc_outside : Option Float → Bool
acc_outside none = false
acc_outside (some x) = not (le zero64 x && le x one64)

-- The checks that every method shares, in the table's order: the number of the first that stops the query, or 0.
unfoldable pub stop_of : Query → ℕ
stop_of q =
    cond (chart_over q.chart) 7
    (cond (unknown_code q.method q.priority) 8
    (cond (count_over (inspect_of q)) 10
    (cond (acc_outside (inspect_of q).acc) 11 0)))

-- What they leave: document 01's domain.
abbrev pub InRange : Option Float → Type 0
InRange none = Unit {0}
InRange (some x) = T (le zero64 x) × T (le x one64)

pub record Domain (q : Query) : Type 0 where
  pub objects : q.chart.n_objects ≤ chart_limit
  pub holds : q.chart.n_hold_notes ≤ chart_limit
  pub method : q.method ≤ 3
  pub priority : q.priority ≤ 1
  pub n320 : or (inspect_of q).n320 0 ≤ cap
  pub n300 : or (inspect_of q).n300 0 ≤ cap
  pub n200 : or (inspect_of q).n200 0 ≤ cap
  pub n100 : or (inspect_of q).n100 0 ≤ cap
  pub n50 : or (inspect_of q).n50 0 ≤ cap
  pub acc : InRange (inspect_of q).acc
