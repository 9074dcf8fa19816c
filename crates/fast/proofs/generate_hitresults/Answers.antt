-- `fast::generate_hitresults` meets its contract. Assumes nothing.
use mathlib.Core.Path.{sym, ◌∙◌}
use Rattle.std.proofs.Common.{rules}
use Rattle.fast.proofs.Steps.{all-is, four_is, few-is}
use Rattle.fast.proofs.generate_hitresults.Goals as goal

pub returns-in-Nothing : goal.returns-in-Nothing
returns-in-Nothing c =
    all-is c.args.acc.value c.args.q c.total_hits-total.ensures.0 c.misses-misses.ensures.0 c.sub-remain.ensures
    c.prelim-p.result (sym c.eq.ensures ∙ c.if-eq.false) c.prelim-p.ensures (sym c.in-Nothing.is ∙ c.missing_of.ensures)

pub returns-in-One : goal.returns-in-One
returns-in-One c =
    four_is c.args.acc.value c.args.q c.total_hits-total.ensures.0 c.misses-misses.ensures.0 c.sub-remain.ensures
    c.prelim-p.result (sym c.eq.ensures ∙ c.if-eq.false) c.prelim-p.ensures (sym c.in-One.is ∙ c.missing_of.ensures) c.one_missing.ensures

pub returns-in-Two : goal.returns-in-Two
returns-in-Two c =
    few-is c.args.acc.value c.args.q c.total_hits-total.ensures.0 c.misses-misses.ensures.0 c.sub-remain.ensures
    c.prelim-p.result (sym c.eq.ensures ∙ c.if-eq.false) c.prelim-p.ensures
    c.missing_of.result c.missing_of.ensures (search rules) c.three_or_fewer.ensures
