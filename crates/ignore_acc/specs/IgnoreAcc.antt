-- ignore_acc.rs, `generate_hitresults` (lines 9 to 75), and document 01, ignore_acc.rs: "IgnoreAccuracy adds the shortfall to
-- n320, or n50 for WorstCase."
use Rattle.std.specs.Prelude.{ℕ, ◌+◌, ◌-◌, min}
use Rattle.std.proofs.Math.Option.{Option, none, some}
use Rattle.score_state.specs.declared.HitResults.{HitResults}
use Rattle.inspect.specs.Inspect.{Inspect, HitResultPriority, BestCase, WorstCase, misses, remain}

-- ---- the running `remain`: the closure and `mem::replace` as functions that hand it back

-- what a count was assigned, and what then remains
pub record Assigned : Type 0 where
  pub count : Option ℕ
  pub remain : ℕ

-- `assign_specified` (lines 15 to 20)
unfoldable pub assign_specified : Option ℕ → ℕ → Assigned
assign_specified none remain = record { count = none; remain = remain }
assign_specified (some specified) remain =
    let assigned = min specified remain in
    record { count = some assigned; remain = remain - assigned }

-- what a count is filled with, and what then remains
pub record Filled : Type 0 where
  pub count : ℕ
  pub remain : ℕ

-- `n.unwrap_or_else(|| mem::replace(&mut remain, 0))`
unfoldable pub unwrap_or_else : Option ℕ → ℕ → Filled
unwrap_or_else none remain = record { count = remain; remain = 0 }
unwrap_or_else (some n) remain = record { count = n; remain = remain }

-- ---- the two passes, over five counts in priority order

pub record Five : Type 0 where
  pub first : ℕ
  pub second : ℕ
  pub third : ℕ
  pub fourth : ℕ
  pub fifth : ℕ
  pub remain : ℕ

-- the five, and what still remains
abbrev pub five_sum : Five → ℕ
five_sum f = f.first + f.second + f.third + f.fourth + f.fifth + f.remain

-- "Second pass: fill first unspecified with remainder"
unfoldable pub second_pass : Assigned → Assigned → Assigned → Assigned → Assigned → Five
second_pass a b c d e =
    let first = unwrap_or_else a.count e.remain in
    let second = unwrap_or_else b.count first.remain in
    let third = unwrap_or_else c.count second.remain in
    let fourth = unwrap_or_else d.count third.remain in
    let fifth = unwrap_or_else e.count fourth.remain in
    record {
      first = first.count;
      second = second.count;
      third = third.count;
      fourth = fourth.count;
      fifth = fifth.count;
      remain = fifth.remain;
    }

-- `if remain > 0 { n320 += remain; }`, or n50 for the worst case: what still remains with all five given, the shortfall, goes
-- to the first; a shortfall of 0 adds nothing.
unfoldable pub add_shortfall : Five → Five
add_shortfall f =
    record {
      first = f.first + f.remain;
      second = f.second;
      third = f.third;
      fourth = f.fourth;
      fifth = f.fifth;
      remain = 0;
    }

-- "First pass: assign specified values in priority order", then the second, and the shortfall
unfoldable pub passes : ℕ → Option ℕ → Option ℕ → Option ℕ → Option ℕ → Option ℕ → Five
passes remain a b c d e =
    let first = assign_specified a remain in
    let second = assign_specified b first.remain in
    let third = assign_specified c second.remain in
    let fourth = assign_specified d third.remain in
    let fifth = assign_specified e fourth.remain in
    add_shortfall (second_pass first second third fourth fifth)

-- ---- `match inspect.hitresult_priority` (lines 22 to 65)

unfoldable pub best_case : Inspect → ℕ → ℕ → HitResults
best_case i remaining missed =
    let filled = passes remaining i.n320 i.n300 i.n200 i.n100 i.n50 in
    record {
      n320 = filled.first;
      n300 = filled.second;
      n200 = filled.third;
      n100 = filled.fourth;
      n50 = filled.fifth;
      misses = missed;
    }

-- worst to best
unfoldable pub worst_case : Inspect → ℕ → ℕ → HitResults
worst_case i remaining missed =
    let filled = passes remaining i.n50 i.n100 i.n200 i.n300 i.n320 in
    record {
      n320 = filled.fifth;
      n300 = filled.fourth;
      n200 = filled.third;
      n100 = filled.second;
      n50 = filled.first;
      misses = missed;
    }

unfoldable pub by_priority : HitResultPriority → HitResults → HitResults → HitResults
by_priority BestCase best worst = best
by_priority WorstCase best worst = worst

unfoldable pub ignore_acc : Inspect → HitResults
ignore_acc i = by_priority i.priority (best_case i (remain i) (misses i)) (worst_case i (remain i) (misses i))
