-- The code's structs and options as the definitions' records and options. Definitions only.
use Rattle.std.specs.Prelude.{ℕ}
use Rattle.std.specs.Prelude.{Some, None}
use Rattle.std.specs.declared.option.Option as Code
use Rattle.std.proofs.Math.Option.{Option, none, some}
use Rattle.units.specs.declared.Hits.{Hits}
use Rattle.score_state.specs.Given.{option_of}
use Rattle.score_state.specs.declared.HitResults.{HitResults}
use Rattle.ignore_acc.specs.IgnoreAcc.{Assigned, Filled, Five, second_pass, passes}
use Rattle.ignore_acc.specs.declared.Taken.{Taken}
use Rattle.ignore_acc.specs.declared.InOrder.{InOrder}
use Rattle.ignore_acc.specs.declared.Five.{Five as FiveS}

-- a number of hits that may be missing
abbrev pub hits_of : Code.Option Hits → Option ℕ
hits_of None = none
hits_of (Some n) = some n.0

abbrev pub assigned_of : Taken (Code.Option Hits) → Assigned
assigned_of a = record { count = hits_of a.count; remain = a.remain.0 }

abbrev pub filled_of : Taken Hits → Filled
filled_of f = record { count = f.count.0; remain = f.remain.0 }

abbrev pub five_of : FiveS → Five
five_of f =
    record {
      first = f.counts.first.0;
      second = f.counts.second.0;
      third = f.counts.third.0;
      fourth = f.counts.fourth.0;
      fifth = f.counts.fifth.0;
      remain = f.remain.0;
    }

-- five of a kind in the other case's order
abbrev pub reversed : {T : Type 0} → InOrder T → InOrder T
reversed s = record { first = s.fifth; second = s.fourth; third = s.third; fourth = s.second; fifth = s.first }

-- the passes over the code's five
abbrev pub second_pass_of : InOrder (Taken (Code.Option Hits)) → Five
second_pass_of a = second_pass (assigned_of a.first) (assigned_of a.second) (assigned_of a.third) (assigned_of a.fourth) (assigned_of a.fifth)

abbrev pub passes_of : ℕ → InOrder (Code.Option ℕ) → Five
passes_of remain s = passes remain (option_of s.first) (option_of s.second) (option_of s.third) (option_of s.fourth) (option_of s.fifth)

-- the five as counts: from n320 on in the best case, from n50 on in the worst
abbrev pub best_counts : Five → ℕ → HitResults
best_counts f misses =
    record {
      n320 = f.first;
      n300 = f.second;
      n200 = f.third;
      n100 = f.fourth;
      n50 = f.fifth;
      misses = misses;
    }

abbrev pub worst_counts : Five → ℕ → HitResults
worst_counts f misses =
    record {
      n320 = f.fifth;
      n300 = f.fourth;
      n200 = f.third;
      n100 = f.second;
      n50 = f.first;
      misses = misses;
    }
