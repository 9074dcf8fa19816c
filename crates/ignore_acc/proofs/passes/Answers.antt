-- `ignore_acc::passes` meets its contract. Assumes nothing.
use mathlib.Core.Path.{ap}
use native.Mathlib.Omega.{arith}
use Rattle.score_state.specs.Given.{option_of}
use Rattle.ignore_acc.specs.IgnoreAcc.{five_sum}
use Rattle.ignore_acc.specs.Code.{assigned_of}
use Rattle.ignore_acc.proofs.Laws.{filled_sum}
use Rattle.ignore_acc.proofs.passes.Goals as goal

pub add_shortfall-requires : goal.add_shortfall-requires
add_shortfall-requires c =
    let s = c.args.specified in
    omega (
      arith,
      ap five_sum c.second_pass.ensures,
      filled_sum c.args.remain.0 (option_of s.first) (option_of s.second) (option_of s.third) (option_of s.fourth) (option_of s.fifth)
          (assigned_of c.assign_specified-first.result) (assigned_of c.assign_specified-second.result) (assigned_of c.assign_specified-third.result)
          (assigned_of c.assign_specified-fourth.result) (assigned_of c.assign_specified-fifth.result)
          c.assign_specified-first.ensures c.assign_specified-second.ensures c.assign_specified-third.ensures
          c.assign_specified-fourth.ensures c.assign_specified-fifth.ensures,
    )
