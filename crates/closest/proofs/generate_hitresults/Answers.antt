-- `closest::generate_hitresults`: five zeros where nothing remains, and the search otherwise. Assumes nothing.
use mathlib.Core.Path.{refl, sym, ◌∙◌}
use Rattle.inspect.specs.Inspect.{inspect_of}
use Rattle.closest_laws.proofs.Fills.{none-remain, some-remain}
use Rattle.closest.specs.Answer.{answer_of}
use Rattle.closest.specs.Code.{play_view}
use Rattle.closest.proofs.generate_hitresults.Goals as goal

pub returns-then-eq : goal.returns-then-eq
returns-then-eq c =
    let x = c.args in
    none-remain (inspect_of x.q) x.acc.value (play_view c.of-play.result) c.of-play.ensures (sym c.eq.ensures ∙ c.if-eq.true)

pub returns : goal.returns
returns c =
    let x = c.args in
    let p = c.of-play.result in
    let n = p.counts in
    some-remain (inspect_of x.q) x.acc.value (play_view p) c.of-play.ensures p.presence n.n320 n.n300 n.n200 n.n100 n.n50 (sym c.eq.ensures ∙ c.if-eq.false) refl
    (answer_of c.optimize_hitresults.result) c.optimize_hitresults.ensures
