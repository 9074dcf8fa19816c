-- `heaviest` is the first of the missing weights.
use Rattle.plan.proofs.Missing.{first_step, first-none}
use Rattle.plan.proofs.heaviest.Goals as goal

pub returns : goal.returns
returns c = λ g. simp (first_step, first-none) c.last_missing.ensures
