-- `direct::weights_of` meets its contract. Assumes nothing.
use borrow.Author.Tests.{lt-ltb, le-ltb}
use Rattle.direct.proofs.weights_of.Goals as goal

pub returns-then-kind-lt2 : goal.returns-then-kind-lt2
returns-then-kind-lt2 c = rw (lt-ltb c.args.kind 2 c.if-kind-lt2.true) c.standard_weights.ensures.0

pub returns : goal.returns
returns c = rw (le-ltb c.args.kind 2 c.if-kind-lt2.false)
