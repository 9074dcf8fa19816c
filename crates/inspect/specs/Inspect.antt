-- inspect.rs, `InspectManiaPerformance` (lines 13 to 47), and document 01, inspect.rs: "objects = min(passed, n_objects), passed
-- missing = no cap. `total_hits` = objects if classic, else objects + n_hold_notes (the hold notes in full, even for a shortened
-- play). misses = min(given, total), missing = 0. remain = total − misses." Document 02, L2, of the holds passed: "Non-classic total is
-- objects plus the smaller of that and n_hold_notes; classic ignores it. That u32 has no limit of its own; a direct call takes it as
-- one more optional number."
use Rattle.std.specs.Prelude.{ℕ, zero, suc, ◌+◌, ◌-◌, min, Bool, true, false, cond, List, [], ◌∷◌, eqb, Float}
use Rattle.std.proofs.Math.Option.{Option, none, some}
use Rattle.std.specs.Prelude.{Some, None}
use Rattle.std.specs.declared.option.Option as Code
use Rattle.score_state.specs.Given.{option_of}
use Rattle.inspect.specs.Presence.{has, given}
use Rattle.inspect.specs.declared.Accuracy.{Accuracy}
use Rattle.inspect.specs.declared.Accuracy.TheVariants.{Given, Absent}
use Rattle.inspect.specs.declared.Query.{Query}

pub data HitResultPriority : Type 0 where
  BestCase : HitResultPriority
  WorstCase : HitResultPriority

-- a query as the Rust's generators see it, and the holds passed
pub record Inspect : Type 0 where
  pub objects : ℕ
  pub holds : ℕ
  pub passed : Option ℕ
  pub holds_passed : Option ℕ
  pub classic : Bool
  pub priority : HitResultPriority
  pub n320 : Option ℕ
  pub n300 : Option ℕ
  pub n200 : Option ℕ
  pub n100 : Option ℕ
  pub n50 : Option ℕ
  pub misses : Option ℕ
  pub acc : Option Float

-- the document's number for a priority: 0 BestCase, 1 WorstCase (check 8 lets no other pass)
abbrev pub priority_of : ℕ → HitResultPriority
priority_of zero = BestCase
priority_of (suc n) = WorstCase

abbrev pub acc_of : Accuracy → Option Float
acc_of (Given x) = some x
acc_of Absent = none

-- an accuracy that a flag says is given
abbrev pub acc_by : Bool → Float → Accuracy
acc_by true acc = Given acc
acc_by false acc = Absent

abbrev pub inspect_of : Query → Inspect
inspect_of q =
    record {
      objects = q.chart.n_objects;
      holds = q.chart.n_hold_notes;
      passed = given (has q.presence 128) q.passed;
      holds_passed = option_of q.holds;
      classic = q.classic;
      priority = priority_of q.priority;
      n320 = given (has q.presence 1) q.n320;
      n300 = given (has q.presence 2) q.n300;
      n200 = given (has q.presence 4) q.n200;
      n100 = given (has q.presence 8) q.n100;
      n50 = given (has q.presence 16) q.n50;
      misses = given (has q.presence 32) q.misses;
      acc = acc_of q.acc;
    }

-- the five optional counts, from n320 to n50
abbrev pub givens : Inspect → List (Option ℕ)
givens i = i.n320 ∷ i.n300 ∷ i.n200 ∷ i.n100 ∷ i.n50 ∷ []

-- min(passed, n_objects), and "the smaller of that and n_hold_notes": all of them where the number is missing
unfoldable pub shortened : Option ℕ → ℕ → ℕ
shortened none all = all
shortened (some passed) all = min passed all

unfoldable pub total_hits : Inspect → ℕ
total_hits i =
    let objects = shortened i.passed i.objects in
    cond i.classic objects (objects + shortened i.holds_passed i.holds)

-- `map_or(0, |n| cmp::min(n, total_hits))`
unfoldable pub capped_misses : Option ℕ → ℕ → ℕ
capped_misses none total = 0
capped_misses (some n) total = min n total

unfoldable pub misses : Inspect → ℕ
misses i = capped_misses i.misses (total_hits i)

unfoldable pub remain : Inspect → ℕ
remain i = total_hits i - misses i

-- the holds passed, if they are given: a number other than 0 says so
abbrev pub holds_by : ℕ → ℕ → Code.Option ℕ
holds_by given n = cond (eqb given 0) None (Some n)
