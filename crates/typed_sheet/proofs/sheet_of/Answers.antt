-- `typed_sheet::sheet_of` meets its contract. Assumes nothing.
use mathlib.Core.Path.{sym, ap, ◌∙◌}
use native.Mathlib.Omega.{arith}
use borrow.Author.Rules.{rules}
use lib.ListN.{length}
use Rattle.std.specs.Prelude.{Ok}
use Rattle.std.proofs.lemmas.Result.{err_from_is_err_and}
use Rattle.text.proofs.Written.{size, whole}
use Rattle.typed_sheet.specs.Typed.{typed_sheet, Says}
use Rattle.typed_sheet.proofs.Tallies.{fine}
use Rattle.typed_sheet.proofs.Whole.{at_fault, too_short, in_full, sheet-length}
use Rattle.typed_sheet.proofs.sheet_of.Goals as goal

pub returns-in_err-t : goal.returns-in_err-t
returns-in_err-t c =
    let r = err_from_is_err_and c.from_residual.result c.from_residual.ensures.1 in
    rw (r.1, r.2) (at_fault c.args.text.now c.args.out.now c.in_err-t.field-0.0 (sym c.tally_text.ensures.value ∙ c.in_err-t.was))

pub returns-then-out-size : goal.returns-then-out-size
returns-then-out-size c = too_short c.args.text.now c.args.out.now c.in_ok-t.t (sym c.tally_text.ensures.value ∙ c.in_ok-t.was) c.if-out-size.true

pub write_sheet-requires : goal.write_sheet-requires
write_sheet-requires c =
    let t = c.in_ok-t.t in
    let f = fine c.args.text.now t (sym c.tally_text.ensures.value ∙ c.in_ok-t.was) in
    omega (arith, sheet-length c.args.text.now t f, ap length c.new-sheet.ensures.bytes)

pub returns : goal.returns
returns c =
    let x = c.args in
    let t = c.in_ok-t.t in
    let text = c.new-sheet.ensures in
    let e = sym c.tally_text.ensures.value ∙ c.in_ok-t.was in
    let written = c.write_sheet.ensures in
    let z = sym (size written text.empty text.bytes c.len.ensures) ∙ sheet-length x.text.now t (fine x.text.now t e) in
    let says : Says (typed_sheet x.text.now x.out.now) (Ok c.len.result) c.write_sheet.new.out.bytes.now =
    in_full x.text.now x.out.now t e c.if-out-size.false c.len.result c.write_sheet.new.out.bytes.now z (whole written text.empty text.bytes c.len.ensures) in
    search rules
