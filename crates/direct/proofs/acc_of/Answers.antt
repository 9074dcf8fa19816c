-- `direct::acc_of` meets its contract. Assumes nothing.
use Rattle.direct.proofs.acc_of.Goals as goal

pub returns : goal.returns
returns c = rw c.is_given.ensures at c.acc_by.ensures
