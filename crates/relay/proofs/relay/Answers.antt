-- `relay`: the checks, the pool and its split, and what is written of it.
use Prim.Native.Nat.{◌<◌}
use mathlib.Core.Path.{sym, ap, ◌∙◌}
use native.Mathlib.Omega.{arith}
use lib.ListN.{length, length-set}
use Rattle.refusals.specs.Refusal.{number_of}
use Rattle.refusals.proofs.Numbers.{never_zero}
use Rattle.score_state.specs.Answer.{status_of, answer_of}
use Rattle.score_state.specs.Lent.{lent}
use Rattle.score_state.proofs.Handed.{err_handed}
use Rattle.inspect.specs.Inspect.{acc_of}
use Rattle.inspect.proofs.Checked.{in_range}
use Rattle.nearest.specs.Outcome.{found_of}
use Rattle.relay_laws.specs.Plays.{plays_of}
use Rattle.relay.proofs.Answered.{cleared, stopped, without_acc, worked, pool_split, numbers-written}
use Rattle.relay.proofs.relay.Goals as goal

pub returns-in_err-check-clause-equation : goal.returns-in_err-check-clause-equation
returns-in_err-check-clause-equation c =
    let x = c.args in
    let f = c.in_err-check.field-0.0 in
    ap (λ r. lent (status_of (answer_of r)) x.out.now) (err_handed c.from_residual.result f c.from_residual.ensures.1)
    ∙ stopped x.classic (acc_of x.acc) x.plays.now x.out.now (number_of f) c.in_err-check.ensures (never_zero f)

pub returns-in_default-clause-equation : goal.returns-in_default-clause-equation
returns-in_default-clause-equation c =
    let x = c.args in
    without_acc x.classic (acc_of x.acc) x.plays.now x.out.now (sym c.in_ok-check.ensures) (ap acc_of c.in_default.is)

pub invariant_of-plays : goal.invariant_of-plays
invariant_of-plays c = record { playable = (cleared c.in_ok-check.ensures).playable }

pub of-requires : goal.of-requires
of-requires c = (cleared c.in_ok-check.ensures).few

pub invariant_of-split : goal.invariant_of-split
invariant_of-split c = record { in_range = in_range _ (rw (ap acc_of c.in-Given.is) at (cleared c.in_ok-check.ensures).inside) }

pub bounds-out-0 : goal.bounds-out-0
bounds-out-0 c = omega (arith, (cleared c.in_ok-check.ensures).fits)

pub deal_all-requires : goal.deal_all-requires
deal_all-requires c = rw length-set (cleared c.in_ok-check.ensures).fits

pub returns : goal.returns
returns c =
    let x = c.args in
    let value = c.in-Given.value in
    let ps = plays_of x.plays.now in
    let pool = c.of.ensures in
    let room : 0 < length x.out.now = omega (arith, (cleared c.in_ok-check.ensures).fits) in
    let split = pool_split x.classic value ps (found_of c.split-split.result) c.of.result.total.0 c.of.result.remain.0 c.split-split.ensures pool.total_value.0 pool.remain_value.0 in
    let w =
    worked x.classic (acc_of x.acc) x.plays.now x.out.now (sym c.in_ok-check.ensures) value c.deal_all.new.out
    (ap acc_of c.in-Given.is)
    (c.deal_all.ensures ∙ numbers-written x.classic value ps x.out.now (found_of c.split-split.result) split room) in
    record { equation = w.0; relayed = λ z. w.1 }
