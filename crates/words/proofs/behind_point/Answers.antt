-- `words::behind_point` meets its contract. Assumes nothing.
use mathlib.Core.Path.{◌≡◌, refl, sym, ap, ◌∙◌}
use Prim.Native.Nat.{◌+◌, ◌*◌, ◌^◌, ◌≤◌}
use native.Mathlib.Numerals.{add-one}
use native.Mathlib.Nat.{pow-suc, pow-le-pow_right}
use native.Mathlib.Omega.{arith}
use Rattle.std.specs.Prelude.{Ok}
use Rattle.words.specs.Values.{hundredth}
use Rattle.words.proofs.Values.{behind_over, behind_low, behind_high, behind_long, behind_on}
use Rattle.words.proofs.behind_point.Goals as goal

pub loop-b-init : goal.loop-b-init
loop-b-init c = (omega arith, omega arith, refl, omega arith, refl)

pub returns-then-c-lt48 : goal.returns-then-c-lt48
returns-then-c-lt48 c =
    let w = c.args.w.now in
    let l = c.loop-b in
    let b = c.from-c in
    sym (behind_low w l.b-index b.result (omega arith) b.ensures l.n l.k c.if-c-lt48.true) ∙ l.invariant.4

pub returns-then-c-gt57 : goal.returns-then-c-gt57
returns-then-c-gt57 c =
    let w = c.args.w.now in
    let l = c.loop-b in
    let b = c.from-c in
    sym (behind_high w l.b-index b.result (omega arith) b.ensures l.n l.k c.if-c-lt48.false c.if-c-gt57.true) ∙ l.invariant.4

pub returns-then-k-gt11 : goal.returns-then-k-gt11
returns-then-k-gt11 c =
    let w = c.args.w.now in
    let l = c.loop-b in
    let b = c.from-c in
    sym (behind_long w l.b-index b.result (omega arith) b.ensures l.n l.k c.if-c-lt48.false c.if-c-gt57.false (omega arith)) ∙ l.invariant.4

pub overflow_mul-n : goal.overflow_mul-n
overflow_mul-n c =
    let l = c.loop-b in
    let p : 10 ^ l.k ≤ 1000000000000 = pow-le-pow_right (omega arith) l.invariant.1 in
    omega arith

pub overflow_add-n : goal.overflow_add-n
overflow_add-n c =
    let l = c.loop-b in
    let p : 10 ^ l.k ≤ 1000000000000 = pow-le-pow_right (omega arith) l.invariant.1 in
    omega arith

pub overflow_mul-q : goal.overflow_mul-q
overflow_mul-q c =
    let l = c.loop-b in
    let p : 10 ^ l.k ≤ 1000000000000 = pow-le-pow_right (omega arith) l.invariant.1 in
    omega arith

pub loop-b-preserved : goal.loop-b-preserved
loop-b-preserved c =
    let w = c.args.w.now in
    let l = c.loop-b in
    let b = c.from-c in
    let p : 10 ^ (l.k + 1) ≡ 10 ^ l.k * 10 = rw (add-one l.k) (pow-suc 10 l.k) in
    (omega arith, omega arith, omega arith, omega arith, sym (behind_on w l.b-index b.result (omega arith) b.ensures l.n l.k c.if-c-lt48.false c.if-c-gt57.false (omega arith)) ∙ l.invariant.4)

pub ratio_bits-requires : goal.ratio_bits-requires
ratio_bits-requires c =
    let l = c.loop-b in
    let p : 10 ^ l.k ≤ 1000000000000 = pow-le-pow_right (omega arith) l.invariant.1 in
    record { p_bound = omega arith; q_nonzero = (omega arith, omega arith) }

pub returns : goal.returns
unfolding hundredth
returns c =
    let w = c.args.w.now in
    let l = c.loop-b in
    ap Ok (c.ratio_bits.ensures ∙ rw l.invariant.2) ∙ sym (behind_over w l.b-index (omega arith) l.n l.k) ∙ l.invariant.4
