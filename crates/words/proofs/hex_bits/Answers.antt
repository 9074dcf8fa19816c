-- `words::hex_bits` meets its contract. Assumes nothing.
use mathlib.Core.Path.{◌≡◌, sym, ap, ◌∙◌}
use Prim.Native.Nat.{◌+◌, ◌*◌, ◌^◌, ◌≤◌}
use native.Mathlib.Numerals.{add-one}
use native.Mathlib.Nat.{pow-suc, pow-le-pow_right}
use native.Mathlib.Omega.{arith}
use lib.ListN.{length, get_or}
use borrow.Author.Tests.{eq-eqb, ne_eqb}
use Rattle.words.specs.Values.{hex_digit, hex_of}
use Rattle.words.proofs.Values.{hex-over, hex-none, hex_on}
use Rattle.words.proofs.Keywords.{lowercase-small}
use Rattle.words.proofs.hex_bits.Goals as goal

pub returns-then-w-ne16 : goal.returns-then-w-ne16
unfolding hex_of
returns-then-w-ne16 c = rw (ne_eqb (length c.args.w.now) 16 c.if-w-ne16.true)

pub loop-b-init : goal.loop-b-init
unfolding hex_of
loop-b-init c = (omega arith, c.if-w-ne16.false, omega arith, rw (eq-eqb (length c.args.w.now) 16 c.if-w-ne16.false))

pub returns-in_default : goal.returns-in_default
returns-in_default c =
    let w = c.args.w.now in
    let l = c.loop-b in
    let b = c.to_ascii_lowercase in
    let e = ap hex_digit (b.ensures.value ∙ lowercase-small (get_or w l.b-index 0)) in
    sym (hex-none w l.b-index (hex_digit b.result) (omega arith) e l.v c.in_default.ensures.none) ∙ l.invariant.3

pub overflow_mul-v : goal.overflow_mul-v
overflow_mul-v c =
    let l = c.loop-b in
    let h : l.b-index ≤ 15 = omega arith in
    let p : 16 ^ l.b-index ≤ 1152921504606846976 = pow-le-pow_right (omega arith) h in
    omega arith

pub overflow_add-v : goal.overflow_add-v
overflow_add-v c =
    let l = c.loop-b in
    let h : l.b-index ≤ 15 = omega arith in
    let p : 16 ^ l.b-index ≤ 1152921504606846976 = pow-le-pow_right (omega arith) h in
    omega (arith, c.in-Some.ensures.some.1)

pub loop-b-preserved : goal.loop-b-preserved
loop-b-preserved c =
    let w = c.args.w.now in
    let l = c.loop-b in
    let d = c.in-Some.ensures.some in
    let e = d.0 ∙ ap hex_digit (c.to_ascii_lowercase.ensures.value ∙ lowercase-small (get_or w l.b-index 0)) in
    let p : 16 ^ (l.b-index + 1) ≡ 16 ^ l.b-index * 16 = rw (add-one l.b-index) (pow-suc 16 l.b-index) in
    (omega arith, l.invariant.1, omega (arith, d.1), sym (hex_on w l.b-index c.in-Some.d (omega arith) e l.v (λ z. omega (arith, d.1))) ∙ l.invariant.3)

pub returns : goal.returns
returns c =
    let w = c.args.w.now in
    let l = c.loop-b in
    sym (hex-over w l.b-index (omega arith) l.v) ∙ l.invariant.3
