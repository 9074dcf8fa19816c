-- `words::percentage` meets its contract. Assumes nothing.
use mathlib.Core.Path.{sym, ◌∙◌}
use lib.ListN.{get_or}
use borrow.Author.Tests.{eq-eqb, ne_eqb}
use Rattle.words.specs.Values.{percent_of}
use Rattle.words.proofs.percentage.Goals as goal
use Rattle.words.proofs.percentage.Goals.{then-is_empty-via-then-is_empty, then-is_empty-via-else-is_empty+then-w-eq46}

pub returns-then-is_empty : goal.returns-then-is_empty
unfolding percent_of
returns-then-is_empty c =
    elim c.then-is_empty.branch [
      | then-is_empty-via-then-is_empty w ↦ rw (sym c.is_empty.ensures ∙ w.if-is_empty.true)
      | then-is_empty-via-else-is_empty+then-w-eq46 w ↦ rw (sym c.is_empty.ensures ∙ w.if-is_empty.false, eq-eqb (get_or c.args.w.now 0 0) 46 w.if-w-eq46.true)
    ]

pub returns : goal.returns
unfolding percent_of
returns c = rw (sym c.is_empty.ensures ∙ c.if-is_empty.false, ne_eqb (get_or c.args.w.now 0 0) 46 c.if-w-eq46.false) c.before_point.ensures
