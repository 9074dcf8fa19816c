-- `rounded_target::target_query` meets its contract. Assumes nothing.
use Rattle.rounded_target.proofs.target_query.Goals as goal

pub returns : goal.returns
returns c = rw c.holds_of.ensures
