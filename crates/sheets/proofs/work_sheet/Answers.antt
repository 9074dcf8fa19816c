-- `sheets::work_sheet` meets its contract; demand 3 and L8 are laws of its equation. Assumes nothing.
use Rattle.std.proofs.Common.{◌≡◌, Result, Err, sym, ap, ◌∙◌, ◌≤◌, length, arith}
use Rattle.refusals.specs.declared.Refusal.{Refusal}
use Rattle.refusals.specs.Refusal.{number_of}
use Rattle.refusals.proofs.Numbers.{never_zero}
use Rattle.score_state.proofs.Handed.{err_handed}
use Rattle.sheets_laws.proofs.Accepted.{accepted, sheet-stopped, sheet-from}
use Rattle.sheets.specs.Worked.{worked_of}
use Rattle.sheets.specs.declared.Worked.{Worked}
use Rattle.sheets.proofs.Laws.{told, claims}
use Rattle.sheets.proofs.work_sheet.Goals as goal

pub returns-in_err-checked-clause-equation : goal.returns-in_err-checked-clause-equation
returns-in_err-checked-clause-equation c =
    let x = c.args in
    let f = c.in_err-checked.field-0.0 in
    ap (λ (r : Result Worked Refusal). worked_of r x.out.now) (err_handed c.from_residual.result f c.from_residual.ensures.1)
    ∙ sheet-stopped x.sheet.now x.out.now (number_of f) c.in_err-checked.ensures (never_zero f)

-- no check stops the sheet: its queries are few, and their answers have room
pub totals_of-requires : goal.totals_of-requires
totals_of-requires c =
    let q = (accepted c.args.sheet.now (length c.args.out.now) (sym c.in_ok-checked.ensures)).queries in
    let e = c.work_accepted-queries.ensures.0 in
    (omega (arith, q.few, e), omega (arith, q.room, e))

pub returns : goal.returns
returns c =
    let x = c.args in
    let w = c.work_accepted-queries in
    let e = sheet-from x.sheet.now x.out.now w.result _ _ (sym c.in_ok-checked.ensures) w.ensures.0 w.ensures.1 c.totals_of.ensures in
    let a = claims (told w.result c.totals_of.result) x.sheet.now x.out.now _ e in record { equation = a.0; totals = a.1.0; demand3 = a.1.1.0; rising = a.1.1.1 }
