-- `typed_text::text_of` meets its contract. Assumes nothing.
use Prim.Native.Nat.{◌≤◌}
use native.Mathlib.Omega.{arith}
use borrow.Author.Rules.{rules}
use lib.ListN.{length}
use Rattle.std.specs.Prelude.{Ok}
use Rattle.text.proofs.Written.{restated, size, whole, counted}
use Rattle.typed_text.specs.SheetText.{text_of, sheet_text, Says}
use Rattle.typed_text.specs.declared.TextError.TheVariants as Error
use Rattle.typed_text.proofs.Inside.{placed}
use Rattle.typed_text.proofs.Texts.{all_lines, handed, refused, stopped, too_short, written}
use Rattle.typed_text.proofs.text_of.Goals as goal

pub returns-in_err-check : goal.returns-in_err-check
returns-in_err-check c =
    let x = c.args in
    let f = c.in_err-check.field-0.0 in
    let t = handed x.sheet.now x.out.now (Error.Sheet f) (refused x.sheet.now x.out.now f c.in_err-check.ensures) c.from_residual.result c.from_residual.ensures.1 in
    record { outcome = t.0; counted = t.1 }

pub returns-in_err-check_rows : goal.returns-in_err-check_rows
returns-in_err-check_rows c =
    let x = c.args in
    let e = c.in_err-check_rows.field-0.0 in
    let r = c.from_residual-in_err-check_rows in
    let t = handed x.sheet.now x.out.now e (stopped x.sheet.now x.out.now c.places_of-p.ensures.accepted e c.in_err-check_rows.ensures) r.result r.ensures.1 in
    record { outcome = t.0; counted = t.1 }

pub overflow_add-n : goal.overflow_add-n
overflow_add-n c = let w = placed c.args.sheet.now c.places_of-p.result c.places_of-p.ensures in omega arith

pub overflow_add-n-2 : goal.overflow_add-n-2
overflow_add-n-2 c = let w = placed c.args.sheet.now c.places_of-p.result c.places_of-p.ensures in omega arith

pub returns-then-out-text_size : goal.returns-then-out-text_size
returns-then-out-text_size c =
    let x = c.args in
    let p = c.places_of-p.result in
    let h = c.places_of-p.ensures in
    record { outcome = too_short x.sheet.now x.out.now h.accepted c.in_ok-check_rows.ensures (rw (c.text_size.ensures, all_lines x.sheet.now p h) at c.if-out-text_size.true); counted = tt }

pub returns : goal.returns
returns c =
    let x = c.args in
    let p = c.places_of-p.result in
    let h = c.places_of-p.ensures in
    let k : length (text_of x.sheet.now) ≤ length x.out.now = rw (c.text_size.ensures, all_lines x.sheet.now p h) at c.if-out-text_size.false in
    let text = c.new-text.ensures in
    let w = restated c.write_lines.ensures (all_lines x.sheet.now p h) in
    let all : Says (sheet_text x.sheet.now x.out.now) (Ok c.len.result) c.write_lines.new.text.bytes.now =
    written x.sheet.now x.out.now h.accepted c.in_ok-check_rows.ensures k c.len.result c.write_lines.new.text.bytes.now (size w text.empty text.bytes c.len.ensures) (whole w text.empty text.bytes c.len.ensures) in
    let within = counted w text.empty text.bytes c.len.ensures in
    record { outcome = search rules; counted = search rules }
