-- `percent::percentage_with` meets its contract. Assumes nothing.
use mathlib.Core.Path.{sym, ◌∙◌, subst}
use native.Mathlib.Omega.{arith}
use lib.Dec.{T}
use lib.Ieee.{of_bits}
use Rattle.rounding.specs.Round.{product}
use Rattle.words.proofs.Ratio.{in-float}
use Rattle.percent.proofs.Found.{ten_to, not_from, not_below, too_large, other_bits, has_bits}
use Rattle.percent.proofs.percentage_with.Goals as goal

pub int_to_float-x : goal.int_to_float-x
int_to_float-x c =
    in-float c.args.q (omega (arith, ten_to c.args.k c.requires.0))

pub returns-then-not-x : goal.returns-then-not-x
unfolding of_bits
returns-then-not-x c =
    let f = c.f64_of in
    let x = c.args in
    sym (not_from x.bits x.k x.q f.result c.requires.0 c.requires.1 f.ensures c.if-not-x.true)

pub returns-then-not-x-2 : goal.returns-then-not-x-2
unfolding of_bits
returns-then-not-x-2 c =
    let f = c.f64_of in
    let x = c.args in
    sym (not_below x.bits x.k x.q f.result c.requires.0 c.requires.1 f.ensures c.if-not-x-2.true)

pub round_whole-n-requires : goal.round_whole-n-requires
unfolding of_bits
round_whole-n-requires c =
    let x = product c.f64_of.result c.args.q in
    record { fact_1 = subst T (sym c.if-not-x.false) tt; fact_2 = subst T (sym c.if-not-x-2.false) tt }

pub overflow_mul-q : goal.overflow_mul-q
overflow_mul-q c =
    omega (arith, ten_to c.args.k c.requires.0)

pub returns-then-n-q : goal.returns-then-n-q
returns-then-n-q c =
    let f = c.f64_of in
    let n = c.round_whole-n in
    let x = c.args in
    sym (too_large x.bits x.k x.q f.result c.requires.0 c.requires.1 f.ensures n.result n.ensures (omega arith))

pub ratio_bits-requires : goal.ratio_bits-requires
ratio_bits-requires c =
    let p = ten_to c.args.k c.requires.0 in
    record { p_bound = omega arith; q_nonzero = (omega arith, omega arith) }

pub returns-then-ratio_bits-bits : goal.returns-then-ratio_bits-bits
returns-then-ratio_bits-bits c =
    let f = c.f64_of in
    let n = c.round_whole-n in
    let x = c.args in
    sym (other_bits x.bits x.k x.q f.result c.requires.0 c.requires.1 f.ensures n.result n.ensures (λ e. c.if-ratio_bits-bits.true (c.ratio_bits.ensures ∙ e)))

pub returns : goal.returns
returns c =
    let f = c.f64_of in
    let n = c.round_whole-n in
    let x = c.args in
    sym (has_bits x.bits x.k x.q f.result c.requires.0 c.requires.1 f.ensures n.result n.ensures (omega arith) (sym c.ratio_bits.ensures ∙ c.if-ratio_bits-bits.false))
