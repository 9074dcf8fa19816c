-- `points_left::left_of` meets its contract. Assumes nothing.
use Rattle.points_left.proofs.Left.{left-fits, left_is}
use Rattle.points_left.proofs.left_of.Goals as goal

pub overflow_sub-result : goal.overflow_sub-result
overflow_sub-result c = left-fits c.args.target.0 c.args.points.0 c.requires.0 c.requires.1

pub returns : goal.returns
returns c = left_is c.args.target.0 c.args.points.0 c.requires.0 c.requires.1
