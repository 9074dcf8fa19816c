-- `sheets::check` meets its contract: the first section that stops the sheet tells the number, and each starts where the one before it ends.
-- Assumes nothing.
use Rattle.std.proofs.Common.{◌≡◌, Result, ap, ◌∙◌, ℕ, arith}
use Rattle.refusals.specs.declared.Refusal.{Refusal}
use Rattle.refusals.specs.Refusal.{number_of}
use Rattle.refusals.proofs.Numbers.{never_zero}
use Rattle.score_state.specs.Answer.{status_of, answer_of}
use Rattle.score_state.proofs.Handed.{err_handed}
use Rattle.sheets_laws.specs.Sheets.{scoring_stop, queries_stop}
use Rattle.sheets_laws.proofs.Stops.{stops_in_charts, stops_in_scoring, stops_in_queries}
use Rattle.sheets.proofs.check.Goals as goal

pub returns-in_err-charts_end : goal.returns-in_err-charts_end
returns-in_err-charts_end c =
    let f = c.in_err-charts_end.field-0.0 in
    ap (λ (r : Result (Unit {0}) Refusal). status_of (answer_of r)) (err_handed c.from_residual.result f c.from_residual.ensures.1)
    ∙ stops_in_charts c.args.sheet.now c.args.room (number_of f) c.in_err-charts_end.ensures.refusal (never_zero f)

pub returns-in_err-scoring_end : goal.returns-in_err-scoring_end
returns-in_err-scoring_end c =
    let f = c.in_err-scoring_end.field-0.0 in
    let r = c.from_residual-in_err-scoring_end in
    ap (λ (r : Result (Unit {0}) Refusal). status_of (answer_of r)) (err_handed r.result f r.ensures.1)
    ∙ stops_in_scoring c.args.sheet.now c.args.room 0 c.in_ok-charts_end.ensures.refusal (omega arith) (number_of f)
    (c.in_err-scoring_end.ensures.refusal ∙ ap (scoring_stop c.args.sheet.now) c.in_ok-charts_end.ensures.end.0) (never_zero f)

pub returns : goal.returns
returns c =
    let s = c.args.sheet.now in
    let charts = c.in_ok-charts_end.ensures in
    let scoring = c.in_ok-scoring_end.ensures in
    stops_in_queries s c.args.room 0 charts.refusal (omega arith) 0 (scoring.refusal ∙ ap (scoring_stop s) charts.end.0) (omega arith) (status_of (answer_of c.check_queries.result))
    (c.check_queries.ensures ∙ ap (λ (at : ℕ). queries_stop s at c.args.room) (rw (charts.end.0) at scoring.end.0))
