-- `rows::found_answer` meets its contract: what the row's checks and the direct call tell. Assumes nothing.
use mathlib.Core.Path.{sym, ap, ap₂, subst, ◌∙◌}
use native.Mathlib.Nat.{le_of_eq}
use native.Mathlib.Omega.{arith}
use lib.ListN.{length}
use Rattle.refusals.specs.Refusal.{number_of}
use Rattle.refusals.proofs.Numbers.{never_zero}
use Rattle.score_state.specs.Answer.{worked, refused}
use Rattle.score_state.proofs.Handed.{err_handed}
use Rattle.nearest_laws.specs.Nearest.{Weighting}
use Rattle.weighting.proofs.Allowed.{allowed-weighting}
use Rattle.generated.specs.Generated.{values, generated_of}
use Rattle.direct.specs.Direct.{weights_in}
use Rattle.direct.proofs.Handed.{told-refused}
use Rattle.direct.proofs.HandedOver.{kind_weights, numbers-long}
use Rattle.rows.proofs.Stops.{found-stopped}
use Rattle.rows.proofs.Numbers.{found-told}
use Rattle.rows.proofs.found_answer.Goals as goal

pub returns-in_err-check : goal.returns-in_err-check
returns-in_err-check c =
    let f = c.in_err-check.field-0.0 in
    ap generated_of (err_handed c.from_residual.result f c.from_residual.ensures.1)
    ∙ found-stopped c.args.scoring c.args.row c.args.chart (number_of f) c.in_err-check.ensures (never_zero f)

-- the sheet's weights, which check 18 let pass
pub scored-requires : goal.scored-requires
scored-requires c =
    subst Weighting (sym (ap₂ weights_in c.kind_of-kind.ensures c.numbers_of-numbers.ensures ∙ kind_weights c.args.scoring _))
    (allowed-weighting c.args.scoring _ c.requires)

pub returns-in_err-scored : goal.returns-in_err-scored
returns-in_err-scored c =
    let x = c.args in
    let f = c.in_err-scored.field-0.0 in
    let r = c.from_residual-in_err-scored in
    ap generated_of (err_handed r.result f r.ensures.1)
    ∙ found-told x.scoring x.row x.chart (number_of f) c.kind_of-kind.result c.numbers_of-numbers.result c.f64_of-acc.result c.scored.new.out (refused (number_of f)) c.in_ok-check.ensures
    c.kind_of-kind.ensures c.numbers_of-numbers.ensures c.f64_of-acc.ensures (omega (arith, c.scored.auto.out, ap length c.numbers_of-numbers.ensures, numbers-long x.scoring)) (c.in_err-scored.ensures.out_after_2 (le_of_eq (sym (ap length c.numbers_of-numbers.ensures ∙ numbers-long x.scoring)))) (sym (told-refused (number_of f) c.scored.new.out (never_zero f)))

pub returns : goal.returns
returns c =
    let x = c.args in
    found-told x.scoring x.row x.chart 0 c.kind_of-kind.result c.numbers_of-numbers.result c.f64_of-acc.result c.scored.new.out (worked (values c.generated_in.result)) c.in_ok-check.ensures
    c.kind_of-kind.ensures c.numbers_of-numbers.ensures c.f64_of-acc.ensures (omega (arith, c.scored.auto.out, ap length c.numbers_of-numbers.ensures, numbers-long x.scoring)) (c.in_ok-scored.ensures.out_after_2 (le_of_eq (sym (ap length c.numbers_of-numbers.ensures ∙ numbers-long x.scoring)))) (ap worked c.generated_in.ensures)
