-- `typed_answer::sheet_or_fault` meets its contract. Assumes nothing.
use mathlib.Core.Path.{◌≡◌, ap, ◌∙◌}
use Prim.Native.Nat.{ℕ, ◌+◌, ◌-◌}
use native.Mathlib.Omega.{arith}
use lib.ListN.{take, drop}
use borrow.Author.Rules.{rules}
use Rattle.std.specs.Prelude.{Err}
use Rattle.fault_text.specs.FaultText.{fault_text}
use Rattle.typed_answer.specs.Answers.{told}
use Rattle.typed_answer.proofs.Cases.{in_full, at_fault, word_inside, never_short}
use Rattle.typed_answer.proofs.sheet_or_fault.Goals as goal

pub overflow_add-end : goal.overflow_add-end
overflow_add-end c =
    let x = c.args in
    let r = c.sheet_of in
    let f = c.in-Err-Faulty in
    omega (arith, word_inside x.text.now x.sheet.now r.result f.f r.new.out (f.is ∙ ap Err f.field-0-is) r.ensures)

pub slice_bounds-word-end : goal.slice_bounds-word-end
slice_bounds-word-end c =
    let x = c.args in
    let r = c.sheet_of in
    let f = c.in-Err-Faulty in
    omega (arith, word_inside x.text.now x.sheet.now r.result f.f r.new.out (f.is ∙ ap Err f.field-0-is) r.ensures)

pub returns-in-Ok : goal.returns-in-Ok
returns-in-Ok c =
    let x = c.args in
    let r = c.sheet_of in
    in_full x.text.now x.sheet.now r.result c.in-Ok.n r.new.out x.message.now c.in-Ok.is r.ensures

pub returns-in-Err-Faulty : goal.returns-in-Err-Faulty
returns-in-Err-Faulty c =
    let x = c.args in
    let r = c.sheet_of in
    let f = c.in-Err-Faulty in
    let m = c.tell_fault.ensures in
    let a = f.f.word.at in
    let z = f.f.word.size in
    let n = c.from-number.result in
    let e : a + z - a ≡ z = omega arith in
    let w : fault_text f.f.line n (take (a + z - a) (drop a x.text.now)) ≡ fault_text f.f.line n (take z (drop a x.text.now)) =
    ap (λ (k : ℕ). fault_text f.f.line n (take k (drop a x.text.now))) e in
    let y = ap (λ (k : ℕ). told (fault_text f.f.line k (take z (drop a x.text.now)))) c.from-number.ensures in
    record { held = m.counted; is = ap told (m.told ∙ w) ∙ y ∙ at_fault x.text.now x.sheet.now r.result f.f r.new.out (f.is ∙ ap Err f.field-0-is) r.ensures }

pub returns-in-Err-Short : goal.returns-in-Err-Short
returns-in-Err-Short c =
    let x = c.args in
    let r = c.sheet_of in
    let f = c.in-Err-Short in
    absurd (never_short x.text.now x.sheet.now r.result r.new.out (f.is ∙ ap Err f.field-0-is) (search rules) r.ensures)
