-- `methods::closest_counts` meets its contract. Assumes nothing.
use mathlib.Core.Path.{sym, ap, ◌∙◌}
use Rattle.score_state.specs.Answer.{worked}
use Rattle.score_state.proofs.Handed.{err_handed}
use Rattle.closest_f64.proofs.Closest.{closest-is_the_rust}
use Rattle.generated.specs.declared.Generated.{Generated}
use Rattle.generated.specs.Generated.{generated_of, values}
use Rattle.generate_laws.specs.Generate.{untried}
use Rattle.methods.proofs.closest_counts.Goals as goal

pub returns-in_err-counts : goal.returns-in_err-counts
returns-in_err-counts c =
    let x = c.args in
    ap generated_of (err_handed c.from_residual.result c.in_err-counts.field-0.0 c.from_residual.ensures.1)
    ∙ ap untried (c.in_err-counts.ensures ∙ sym (closest-is_the_rust x.q x.acc.value c.requires x.acc.in_range.0 x.acc.in_range.1))

pub returns : goal.returns
returns c =
    let x = c.args in
    ap (λ (g : Generated). worked (values g)) c.into.ensures
    ∙ ap untried (c.in_ok-counts.ensures ∙ sym (closest-is_the_rust x.q x.acc.value c.requires x.acc.in_range.0 x.acc.in_range.1))
