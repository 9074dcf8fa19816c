-- `percent::percentage_of` meets its contract. Assumes nothing.
use mathlib.Core.Path.{◌≡◌, refl, sym, ◌∙◌}
use Prim.Native.Nat.{◌+◌, ◌-◌, ◌*◌, ◌^◌}
use native.Mathlib.Nat.{pow-suc}
use native.Mathlib.Numerals.{add-one}
use native.Mathlib.Omega.{arith}
use Rattle.percent.specs.Percent.{percent_from, shortest}
use Rattle.std.specs.Prelude.{Some, None}
use Rattle.percent.proofs.Fewest.{from_here}
use Rattle.percent.proofs.Found.{ten_to}
use Rattle.percent.proofs.percentage_of.Goals as goal

pub loop-k-init : goal.loop-k-init
unfolding shortest
loop-k-init c = (omega arith, refl, refl)

pub returns-in-Some : goal.returns-in-Some
returns-in-Some c =
    let l = c.loop-k in
    sym (from_here l.k c.args.bits (Some c.in-Some.found) (omega arith) (sym c.percentage_with.ensures ∙ c.in-Some.is)) ∙ l.invariant.2

pub overflow_mul-q : goal.overflow_mul-q
overflow_mul-q c =
    let l = c.loop-k in
    omega (arith, ten_to l.k (omega arith))

pub loop-k-preserved : goal.loop-k-preserved
loop-k-preserved c =
    let l = c.loop-k in
    let p : 10 ^ (l.k + 1) ≡ 10 ^ l.k * 10 = rw (add-one l.k) (pow-suc 10 l.k) in
    (omega arith, omega arith, sym (from_here l.k c.args.bits None (omega arith) (sym c.percentage_with.ensures ∙ c.in_default.is)) ∙ l.invariant.2)

pub returns : goal.returns
unfolding percent_from
returns c =
    let l = c.loop-k in
    let e : 13 - l.k ≡ 0 = omega arith in
    rw e at l.invariant.2
