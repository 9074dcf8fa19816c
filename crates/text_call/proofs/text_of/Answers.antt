-- `text_call::text_of` meets its contract. Assumes nothing.
use mathlib.Core.Path.{ap, ap₂, ◌∙◌}
use mathlib.Core.List.{List}
use Prim.Native.Nat.{ℕ}
use native.Mathlib.Omega.{arith}
use Rattle.std.specs.Prelude.{Err}
use Rattle.refusals.specs.Refusal.{number_of}
use Rattle.typed_call.specs.Told.{lent_by}
use Rattle.typed_text.specs.SheetText.{text, refused, row, short, told_of}
use Rattle.text_call.proofs.TextTold.{too_few, told_by}
use Rattle.text_call.proofs.text_of.Goals as goal

pub returns-then-told-lt1 : goal.returns-then-told-lt1
returns-then-told-lt1 c =
    let x = c.args in
    ap (λ (n : ℕ). lent_by n x.out.now x.told.now) c.from.ensures ∙ too_few x.sheet.now x.out.now x.told.now (omega arith)

pub returns-in-Ok : goal.returns-in-Ok
returns-in-Ok c =
    let x = c.args in
    let s = c.text_of in
    ap (lent_by 0 s.new.out) c.tell_one.ensures ∙ told_by x.sheet.now x.out.now x.told.now s.result (text c.in-Ok.n) _ (omega arith) s.ensures.outcome (ap told_of c.in-Ok.is)

pub returns-in-Err-Sheet : goal.returns-in-Err-Sheet
returns-in-Err-Sheet c =
    let x = c.args in
    let s = c.text_of in
    let i = c.in-Err-Sheet in
    ap (λ (n : ℕ). lent_by n s.new.out x.told.now) c.from-in-Err-Sheet.ensures
    ∙ told_by x.sheet.now x.out.now x.told.now s.result (refused (number_of i.refusal)) _ (omega arith) s.ensures.outcome (ap told_of (i.is ∙ ap Err i.field-0-is))

pub returns-in-Err-Row : goal.returns-in-Err-Row
returns-in-Err-Row c =
    let x = c.args in
    let s = c.text_of in
    let i = c.in-Err-Row in
    ap₂ (λ (n : ℕ) (t : List ℕ). lent_by n s.new.out t) c.from-in-Err-Row.ensures c.tell_one-in-Err-Row.ensures
    ∙ told_by x.sheet.now x.out.now x.told.now s.result (row i.index (number_of i.refusal)) _ (omega arith) s.ensures.outcome (ap told_of (i.is ∙ ap Err i.field-0-is))

pub returns-in-Err-Short : goal.returns-in-Err-Short
returns-in-Err-Short c =
    let x = c.args in
    let s = c.text_of in
    let i = c.in-Err-Short in
    ap (λ (n : ℕ). lent_by n s.new.out x.told.now) c.from-in-Err-Short.ensures
    ∙ told_by x.sheet.now x.out.now x.told.now s.result short _ (omega arith) s.ensures.outcome (ap told_of (i.is ∙ ap Err i.field-0-is))
