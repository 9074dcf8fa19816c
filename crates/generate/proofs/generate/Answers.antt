-- `generate::generate` meets its contract: the method is the query's own. Assumes nothing.
use Rattle.generate_laws.specs.Generate.{generate_answer}
use Rattle.generate.proofs.generate.Goals as goal

pub returns : goal.returns
unfolding generate_answer
returns c = c.by_method.ensures
