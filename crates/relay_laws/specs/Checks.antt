-- Document 02, L9: "21 fewer than two or more than eight charts; before 7, 10, 11 and 13, which follow in that order." The numbers are
-- handed over in threes, so a length that is none is 21 too; how many numbers are written follows from the number of charts, so an output
-- with no room for them is 5 after 21 and before 7, as a sheet's is before its rows'.
use Rattle.std.specs.Prelude.{ℕ, ◌+◌, ◌*◌, ◌/◌, ◌%◌, ◌<◌, Bool, false, not, cond, ◌||◌, List, [], ◌∷◌, ◌≡◌, eqb, ltb, Float, length}
use Rattle.std.proofs.Math.Option.{Option}
use Rattle.score_state.specs.Accuracy.{cap}
use Rattle.inspect.specs.Checks.{chart_over, acc_outside}
use Rattle.relay_laws.specs.Plays.{Play, play_at, chart_count, plays_of}

-- whether it holds of one of them
unfoldable pub any_of : (Play → Bool) → List Play → Bool
any_of f [] = false
any_of f (p ∷ ps) = f p || any_of f ps

-- 21, of so many numbers
unfoldable pub bad_count : ℕ → Bool
bad_count n = not (eqb (n % 3) 0) || (ltb (n / 3) 2 || ltb 8 (n / 3))

-- how many numbers are written of n charts: tried, and six a chart
abbrev pub numbers_for : ℕ → ℕ
numbers_for n = 1 + 6 * n

-- 7 and 10, of a chart of the relay
abbrev pub over_chart : Play → Bool
over_chart p = chart_over p.chart

abbrev pub over_misses : Play → Bool
over_misses p = ltb cap p.misses

-- what 7 leaves: no chart is over
abbrev pub Playable : List ℕ → Type 0
Playable s = (k : ℕ) → k < chart_count s → over_chart (play_at s k) ≡ false

-- The checks before 13, in order, each over all charts, for an output of `room` numbers: the number of the first that stops the relay, or 0.
unfoldable pub relay_stop : Option Float → List ℕ → ℕ → ℕ
relay_stop acc s room =
    cond (bad_count (length s)) 21
    (cond (ltb room (numbers_for (chart_count s))) 5
    (cond (any_of over_chart (plays_of s)) 7
    (cond (any_of over_misses (plays_of s)) 10
    (cond (acc_outside acc) 11 0))))
