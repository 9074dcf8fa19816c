-- `inspect::acc_by` meets its contract. Assumes nothing.
use Rattle.inspect.proofs.acc_by.Goals as goal

pub returns-then-given : goal.returns-then-given
returns-then-given c = rw c.if-given.true

pub returns-else-given : goal.returns-else-given
returns-else-given c = rw c.if-given.false
