-- `methods::scored_by` meets its contract. Assumes nothing.
use mathlib.Core.Path.{sym, ap, ◌∙◌}
use Rattle.refusals.specs.Refusal.{number_of}
use Rattle.refusals.proofs.Numbers.{never_zero}
use Rattle.score_state.specs.Answer.{worked, refused}
use Rattle.score_state.specs.Points.{weights_of}
use Rattle.score_state.proofs.Handed.{err_handed}
use Rattle.inspect.specs.Inspect.{inspect_of, acc_of}
use Rattle.inspect.specs.declared.Accuracy.{Accuracy}
use Rattle.inspect.proofs.Checked.{domain, acc_within}
use Rattle.generated.specs.declared.Generated.{Generated}
use Rattle.generated.specs.Generated.{generated_of, values}
use Rattle.generate_laws.specs.Generate.{counted}
use Rattle.generate_laws.proofs.Answered.{halted, worked_by}
use Rattle.methods.specs.Code.{ignores_acc}
use Rattle.methods.proofs.Chosen.{by_ignore_acc, above_zero, without_acc}
use Rattle.methods.proofs.scored_by.Goals as goal

pub returns-in_err-check : goal.returns-in_err-check
returns-in_err-check c =
    let f = c.in_err-check.field-0.0 in
    ap generated_of (err_handed c.from_residual.result f c.from_residual.ensures.1)
    ∙ halted (weights_of c.args.weights) c.args.method c.args.q (number_of f) c.in_err-check.ensures (never_zero f)

pub generate_hitresults-requires : goal.generate_hitresults-requires
generate_hitresults-requires c = domain c.args.q (sym c.in_ok-check.ensures)

pub returns-then-ignores_acc : goal.returns-then-ignores_acc
returns-then-ignores_acc c =
    let x = c.args in
    ap (λ (g : Generated). worked (values g)) c.into.ensures
    ∙ worked_by (weights_of x.weights) x.method x.q (counted c.generate_hitresults.result) c.in_ok-check.ensures
    (ap counted c.generate_hitresults.ensures.value ∙ by_ignore_acc (weights_of x.weights) x.method (inspect_of x.q) (sym c.ignores_acc.ensures ∙ c.if-ignores_acc.true))

pub invariant_of-at_acc : goal.invariant_of-at_acc
invariant_of-at_acc c = record { in_range = acc_within c.args.q c.in-Given.acc (domain c.args.q (sym c.in_ok-check.ensures)) c.in-Given.is }

pub at_acc-requires : goal.at_acc-requires
at_acc-requires c =
    let x = c.args in
    let e = c.in-Given.is in
    let n = above_zero x.method c.in-Given.acc (sym (ap (λ (y : Accuracy). ignores_acc x.method (acc_of y)) e) ∙ sym c.ignores_acc.ensures ∙ c.if-ignores_acc.false) in
    record { domain = domain x.q (sym c.in_ok-check.ensures); method_nonzero = (n, ap acc_of e); weighting = c.requires }

pub returns : goal.returns
returns c =
    let x = c.args in
    worked_by (weights_of x.weights) x.method x.q (generated_of c.at_acc.result) c.in_ok-check.ensures c.at_acc.ensures

pub returns-in_default : goal.returns-in_default
returns-in_default c =
    let x = c.args in
    let e = c.in_default.is in
    worked_by (weights_of x.weights) x.method x.q (refused 13) c.in_ok-check.ensures
    (without_acc (weights_of x.weights) x.method (inspect_of x.q) (ap acc_of e) (sym (ap (λ (y : Accuracy). ignores_acc x.method (acc_of y)) e) ∙ sym c.ignores_acc.ensures ∙ c.if-ignores_acc.false))
