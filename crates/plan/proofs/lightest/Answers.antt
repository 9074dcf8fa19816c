-- `lightest` is the last of the missing weights.
use Rattle.plan.proofs.Missing.{last_step, last_none}
use Rattle.plan.proofs.lightest.Goals as goal

pub returns : goal.returns
returns c = λ g. simp (last_step, last_none) c.last_missing.ensures
