-- `score_state::accuracy` meets its contract. Assumes nothing.
use Rattle.score_state.specs.Accuracy.{accuracy_answer}
use Rattle.score_state.proofs.Caps.{capped}
use mathlib.Core.Path.{sym, ◌∙◌}
use Rattle.score_state.proofs.accuracy.Goals as goal

pub accuracy_of-requires : goal.accuracy_of-requires
accuracy_of-requires c = capped c.args.counts (sym c.over_cap.ensures ∙ c.if-over_cap.false)

pub returns-then-over_cap : goal.returns-then-over_cap
unfolding accuracy_answer
returns-then-over_cap c = rw (sym c.over_cap.ensures ∙ c.if-over_cap.true)

pub returns : goal.returns
unfolding accuracy_answer
returns c = rw (sym c.over_cap.ensures ∙ c.if-over_cap.false, c.accuracy_of.ensures)
