-- `words::Lines::new` meets its contract. Assumes nothing.
use mathlib.Core.Path.{refl}
use Rattle.words.specs.Lines.{lines}
use Rattle.words.proofs.Lines.new.Goals as goal

pub returns : goal.returns
unfolding lines
returns c = refl
