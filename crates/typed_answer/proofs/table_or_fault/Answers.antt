-- `typed_answer::table_or_fault` meets its contract. Assumes nothing.
use mathlib.Core.Path.{ap, ◌∙◌}
use Rattle.typed_answer.specs.Answers.{made}
use Rattle.typed_answer.proofs.Cases.{printed-is, same_fault}
use Rattle.typed_answer.proofs.table_or_fault.Goals as goal

pub returns-in-Ok : goal.returns-in-Ok
returns-in-Ok c =
    let s = c.sheet_or_fault in
    let p = c.print_sheet.ensures in
    record { held = p.counted; is = ap made p.printed ∙ printed-is c.args.text.now s.result c.in-Ok.n s.new.sheet s.new.message s.ensures c.in-Ok.is }

pub returns-in-Err : goal.returns-in-Err
returns-in-Err c =
    let s = c.sheet_or_fault in
    same_fault c.args.text.now s.result c.in-Err.told.0 s.new.sheet s.new.message s.ensures c.in-Err.is c.args.table.now
