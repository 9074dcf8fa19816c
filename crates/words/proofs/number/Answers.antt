-- `words::number` meets its contract. Assumes nothing.
use mathlib.Core.Path.{sym, ◌∙◌}
use native.Mathlib.Omega.{arith}
use Rattle.words.specs.Values.{number_of}
use Rattle.words.proofs.Values.{digits-over, digits_low, digits_high, digits_large, digits_on}
use Rattle.words.proofs.number.Goals as goal

pub returns-then-is_empty : goal.returns-then-is_empty
unfolding number_of
returns-then-is_empty c = rw (sym c.is_empty.ensures ∙ c.if-is_empty.true)

pub loop-b-init : goal.loop-b-init
unfolding number_of
loop-b-init c = (omega arith, omega arith, rw (sym c.is_empty.ensures ∙ c.if-is_empty.false))

pub returns-then-c-lt48 : goal.returns-then-c-lt48
returns-then-c-lt48 c =
    let w = c.args.w.now in
    let l = c.loop-b in
    let b = c.from-c in
    sym (digits_low w l.b-index b.result (omega arith) b.ensures l.n c.if-c-lt48.true) ∙ l.invariant.2

pub returns-then-c-gt57 : goal.returns-then-c-gt57
returns-then-c-gt57 c =
    let w = c.args.w.now in
    let l = c.loop-b in
    let b = c.from-c in
    sym (digits_high w l.b-index b.result (omega arith) b.ensures l.n c.if-c-lt48.false c.if-c-gt57.true) ∙ l.invariant.2

pub returns-then-m-gt4294967295 : goal.returns-then-m-gt4294967295
returns-then-m-gt4294967295 c =
    let w = c.args.w.now in
    let l = c.loop-b in
    let b = c.from-c in
    sym (digits_large w l.b-index b.result (omega arith) b.ensures l.n c.if-c-lt48.false c.if-c-gt57.false c.if-m-gt4294967295.true) ∙ l.invariant.2

pub loop-b-preserved : goal.loop-b-preserved
loop-b-preserved c =
    let w = c.args.w.now in
    let l = c.loop-b in
    let b = c.from-c in
    (omega arith, omega arith, sym (digits_on w l.b-index b.result (omega arith) b.ensures l.n c.if-c-lt48.false c.if-c-gt57.false c.if-m-gt4294967295.false) ∙ l.invariant.2)

pub returns : goal.returns
returns c =
    let w = c.args.w.now in
    let l = c.loop-b in
    sym (digits-over w l.b-index (omega arith) l.n) ∙ l.invariant.2
