-- Document 01, Where a row or sheet stops: "A direct call, which takes method and priority as numbers, refuses by 7, 8, 10 to 14 with
-- no counts." Document 02, L2, of the holds passed: "a direct call takes it as one more optional number"; L4: "A direct call keeps the
-- standard weights", where a sheet's rows may have own ones.
use Rattle.std.specs.Prelude.{ℕ, ◌%◌, Bool, cond, List, [], ◌∷◌, ltb, eqb, get_or, Float}
use Rattle.score_state.specs.declared.HitResults.{HitResults}
use Rattle.score_state.specs.Points.{standard}
use Rattle.weighting.specs.declared.Scoring.{Scoring}
use Rattle.weighting.specs.declared.Scoring.TheVariants.{Standard, Own}
use Rattle.inspect.specs.Presence.{has}
use Rattle.inspect.specs.Inspect.{acc_by, holds_by}
use Rattle.inspect.specs.declared.Query.{Query}

-- ---- How a row hands over its sheet's weights: no argument more than the direct call has.

-- the classic flag and the weights in one number: 0 not classic, 1 classic, under the standard weights; 2 and 3 the same under own ones
abbrev pub kind_by : Scoring → Bool → ℕ
kind_by Standard classic = cond classic 1 0
kind_by (Own w) classic = cond classic 3 2

-- the numbers that the output holds on entry: own weights in front
abbrev pub numbers_by : Scoring → List ℕ
numbers_by Standard = 0 ∷ 0 ∷ 0 ∷ 0 ∷ 0 ∷ 0 ∷ 0 ∷ 0 ∷ []
numbers_by (Own w) = w.n320 ∷ w.n300 ∷ w.n200 ∷ w.n100 ∷ w.n50 ∷ 0 ∷ 0 ∷ 0 ∷ []

-- the classic flag and the weights that they tell
abbrev pub classic_in : ℕ → Bool
classic_in kind = eqb (kind % 2) 1

abbrev pub weights_in : ℕ → List ℕ → List ℕ
weights_in kind out =
    cond (ltb kind 2) (standard (classic_in kind)) (get_or out 0 0 ∷ get_or out 1 0 ∷ get_or out 2 0 ∷ get_or out 3 0 ∷ get_or out 4 0 ∷ [])

-- the query of these numbers
abbrev pub query_by : ℕ → ℕ → ℕ → ℕ → Bool → ℕ → HitResults → ℕ → ℕ → ℕ → Float → Query
query_by objects holds method priority classic presence counts passed holds_given holds_passed acc =
    record {
      chart = record { n_objects = objects; n_hold_notes = holds };
      method = method;
      priority = priority;
      classic = classic;
      presence = presence;
      n320 = counts.n320;
      n300 = counts.n300;
      n200 = counts.n200;
      n100 = counts.n100;
      n50 = counts.n50;
      misses = counts.misses;
      passed = passed;
      holds = holds_by holds_given holds_passed;
      acc = acc_by (has presence 64) acc;
    }
