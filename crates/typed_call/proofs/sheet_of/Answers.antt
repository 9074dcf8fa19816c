-- `typed_call::sheet_of` meets its contract. Assumes nothing.
use mathlib.Core.Path.{ap, ◌∙◌}
use native.Mathlib.Omega.{arith}
use Rattle.std.specs.Prelude.{Ok, Err}
use Rattle.words.specs.Faults.{fault_number}
use Rattle.typed_sheet.specs.declared.TypedError.TheVariants.{Faulty, Short}
use Rattle.typed_call.specs.Told.{lent_by}
use Rattle.typed_call.proofs.Told.{too_few, told_by}
use Rattle.typed_call.proofs.sheet_of.Goals as goal

pub returns-then-told-lt3 : goal.returns-then-told-lt3
returns-then-told-lt3 c = let x = c.args in too_few x.text.now x.out.now x.told.now (omega arith)

pub returns-in-Ok : goal.returns-in-Ok
returns-in-Ok c =
    let x = c.args in
    let s = c.sheet_of in
    ap (lent_by 0 s.new.out) c.tell_one.ensures ∙ told_by x.text.now x.out.now x.told.now s.result (Ok c.in-Ok.n) s.new.out (omega arith) s.ensures c.in-Ok.is

pub returns-in-Err-Faulty : goal.returns-in-Err-Faulty
returns-in-Err-Faulty c =
    let x = c.args in
    let s = c.sheet_of in
    let f = c.in-Err-Faulty in
    rw c.from.ensures
    (ap (lent_by (fault_number f.f.fault) s.new.out) c.tell_three.ensures ∙ told_by x.text.now x.out.now x.told.now s.result (Err (Faulty f.f)) s.new.out (omega arith) s.ensures (f.is ∙ ap Err f.field-0-is))

pub returns-in-Err-Short : goal.returns-in-Err-Short
returns-in-Err-Short c =
    let x = c.args in
    let s = c.sheet_of in
    let f = c.in-Err-Short in
    told_by x.text.now x.out.now x.told.now s.result (Err Short) s.new.out (omega arith) s.ensures (f.is ∙ ap Err f.field-0-is)
