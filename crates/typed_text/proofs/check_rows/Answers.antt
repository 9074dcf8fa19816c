-- `typed_text::check_rows` meets its contract. Assumes nothing.
use mathlib.Core.Path.{◌≡◌, ap, ap₂, sym, ◌∙◌}
use Prim.Native.Nat.{◌<◌, ◌-◌}
use native.Mathlib.Omega.{arith}
use Rattle.refusals.proofs.Numbers.{never_zero}
use Rattle.typed_text.specs.SheetText.{fault_at, first_from, first_stopped, row}
use Rattle.typed_text.proofs.Inside.{queries_are}
use Rattle.typed_text.proofs.Texts.{first_on, first_here, first-none}
use Rattle.typed_text.proofs.check_rows.Goals as goal

pub loop-index-init : goal.loop-index-init
unfolding first_stopped
loop-index-init c =
    let x = c.args in
    let z : x.p.queries - 0 ≡ x.p.queries = omega arith in
    rw z (ap (first_from (fault_at x.sheet.now) 0) (queries_are x.sheet.now x.p c.requires))

pub returns-in-Err : goal.returns-in-Err
returns-in-Err c =
    let x = c.args in
    let l = c.loop-index in
    let f = fault_at x.sheet.now in
    let k : 0 < f l.index = rw c.in-Err.ensures at (never_zero c.in-Err.refusal) in
    let e : l.index ≡ first_stopped x.sheet.now = sym (first_here f l.index x.p.queries c.loop-index-test.true k) ∙ l.invariant in
    (rw (e, queries_are x.sheet.now x.p c.requires) at c.loop-index-test.true, ap₂ row e (c.in-Err.ensures ∙ ap f e))

pub loop-index-preserved : goal.loop-index-preserved
loop-index-preserved c =
    let x = c.args in
    let l = c.loop-index in
    sym (first_on (fault_at x.sheet.now) l.index x.p.queries c.loop-index-test.true (sym c.in_default.ensures)) ∙ l.invariant

pub returns : goal.returns
returns c =
    let x = c.args in
    let l = c.loop-index in
    let z : l.index ≡ x.p.queries = omega arith in
    sym l.invariant ∙ first-none (fault_at x.sheet.now) l.index x.p.queries z ∙ z ∙ queries_are x.sheet.now x.p c.requires
