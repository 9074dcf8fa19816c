-- `rounded_target::rounded_target` meets its contract. Assumes nothing.
use mathlib.Core.Path.{sym, ap, ◌∙◌}
use Rattle.inspect.proofs.Checked.{domain, acc_within}
use Rattle.refusals.specs.Refusal.{number_of}
use Rattle.refusals.proofs.Numbers.{never_zero}
use Rattle.score_state.proofs.Handed.{err_handed}
use Rattle.rounded_target.specs.Answers.{answer_of}
use Rattle.rounded_target.proofs.Answered.{target-refused, target-missing, target-worked}
use Rattle.rounded_target.proofs.rounded_target.Goals as goal

pub returns-in_err-check : goal.returns-in_err-check
returns-in_err-check c =
    let f = c.in_err-check.field-0.0 in
    ap answer_of (err_handed c.from_residual.result f c.from_residual.ensures.1) ∙ target-refused c.args.q (number_of f) c.in_err-check.ensures (never_zero f)

pub returns-in_default : goal.returns-in_default
returns-in_default c = target-missing c.args.q c.in_ok-check.ensures c.in_default.is

pub total_hits-total_hits-requires : goal.total_hits-total_hits-requires
total_hits-total_hits-requires c = domain c.args.q (sym c.in_ok-check.ensures)

pub misses-requires : goal.misses-requires
misses-requires c = domain c.args.q (sym c.in_ok-check.ensures)

pub remain-requires : goal.remain-requires
remain-requires c = domain c.args.q (sym c.in_ok-check.ensures)

pub invariant_of-target_of : goal.invariant_of-target_of
invariant_of-target_of c = record { in_range = acc_within c.args.q c.in-Given.acc (domain c.args.q (sym c.in_ok-check.ensures)) c.in-Given.is }

pub returns : goal.returns
returns c =
    target-worked c.args.q c.in-Given.acc c.total_hits-total_hits.result.0 c.misses.result.0 c.remain.result.0 c.perfect_weight-w.result c.target_of.result.0
    c.in_ok-check.ensures c.in-Given.is c.total_hits-total_hits.ensures.0 c.misses.ensures.0 c.remain.ensures.0 c.perfect_weight-w.ensures.0 c.target_of.ensures.0
