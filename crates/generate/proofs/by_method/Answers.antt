-- `generate::by_method` meets its contract: the weights are the standard ones. Assumes nothing.
use mathlib.Core.Path.{sym, subst}
use Rattle.nearest_laws.specs.Nearest.{Weighting, standard-weighting}
use Rattle.generate_laws.specs.Generate.{answer_by}
use Rattle.generate.proofs.by_method.Goals as goal

pub scored_by-requires : goal.scored_by-requires
scored_by-requires c = subst Weighting (sym c.standard_weights.ensures.0) (standard-weighting c.args.q.classic)

pub returns : goal.returns
unfolding answer_by
returns c = rw c.standard_weights.ensures.0 at c.scored_by.ensures
