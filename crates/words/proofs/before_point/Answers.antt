-- `words::before_point` meets its contract. Assumes nothing.
use mathlib.Core.Path.{refl, sym, ap, ◌∙◌}
use Prim.Native.Nat.{◌+◌, ◌-◌}
use native.Mathlib.Omega.{arith}
use Rattle.std.specs.Prelude.{Ok}
use lib.ListN.{length, drop, length-drop}
use Rattle.std.proofs.lemmas.List.{take_all}
use Rattle.words.specs.Values.{hundredth, behind_point}
use Rattle.words.proofs.Values.{before_over, before-point, before_low, before_high, before_large, before_on}
use Rattle.words.proofs.before_point.Goals as goal

pub loop-i-init : goal.loop-i-init
loop-i-init c = (omega arith, omega arith, refl)

pub behind_point-requires : goal.behind_point-requires
behind_point-requires c = omega arith

pub returns-then-c-eq46 : goal.returns-then-c-eq46
returns-then-c-eq46 c =
    let w = c.args.w.now in
    let l = c.loop-i in
    let b = c.from-c in
    c.behind_point.ensures ∙ ap (λ u. behind_point u l.n 0) (take_all (length w - (l.i + 1)) (drop (l.i + 1) w) (omega (arith, length-drop (l.i + 1) w))) ∙ sym (before-point w l.i b.result (omega arith) b.ensures l.n c.if-c-eq46.true) ∙ l.invariant.2

pub returns-then-c-lt48 : goal.returns-then-c-lt48
returns-then-c-lt48 c =
    let w = c.args.w.now in
    let l = c.loop-i in
    let b = c.from-c in
    sym (before_low w l.i b.result (omega arith) b.ensures l.n c.if-c-eq46.false c.if-c-lt48.true) ∙ l.invariant.2

pub returns-then-c-gt57 : goal.returns-then-c-gt57
returns-then-c-gt57 c =
    let w = c.args.w.now in
    let l = c.loop-i in
    let b = c.from-c in
    sym (before_high w l.i b.result (omega arith) b.ensures l.n c.if-c-eq46.false c.if-c-lt48.false c.if-c-gt57.true) ∙ l.invariant.2

pub returns-then-m-gt999 : goal.returns-then-m-gt999
returns-then-m-gt999 c =
    let w = c.args.w.now in
    let l = c.loop-i in
    let b = c.from-c in
    sym (before_large w l.i b.result (omega arith) b.ensures l.n c.if-c-eq46.false c.if-c-lt48.false c.if-c-gt57.false c.if-m-gt999.true) ∙ l.invariant.2

pub loop-i-preserved : goal.loop-i-preserved
loop-i-preserved c =
    let w = c.args.w.now in
    let l = c.loop-i in
    let b = c.from-c in
    (omega arith, omega arith, sym (before_on w l.i b.result (omega arith) b.ensures l.n c.if-c-eq46.false c.if-c-lt48.false c.if-c-gt57.false c.if-m-gt999.false) ∙ l.invariant.2)

pub ratio_bits-requires : goal.ratio_bits-requires
ratio_bits-requires c = record { p_bound = omega arith; q_nonzero = (omega arith, omega arith) }

pub returns : goal.returns
unfolding hundredth
returns c =
    let w = c.args.w.now in
    let l = c.loop-i in
    ap Ok c.ratio_bits.ensures ∙ sym (before_over w l.i (omega arith) l.n) ∙ l.invariant.2
