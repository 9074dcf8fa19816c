-- `closest::Best::attempt` is the body of the inner loop. Assumes nothing.
use Prim.Native.Nat.{◌+◌, ◌≤◌}
use mathlib.Core.Path.{◌≡◌, sym, ◌∙◌}
use native.Mathlib.Omega.{arith}
use borrow.Author.Tests.{ltb-false}
use Rattle.units.proofs.Order.{lt_of}
use Rattle.closest_laws.specs.Loops.{first_two}
use Rattle.closest_laws.proofs.LastThree.{sized}
use Rattle.closest_laws.proofs.Bits.{lacks-one}
use Rattle.closest_laws.proofs.Search.{last_few, inner-take}
use Rattle.closest_points.specs.Code.{last_view}
use Rattle.closest.specs.Code.{play_view, best_view}
use Rattle.closest.proofs.Best.attempt.Goals as goal

pub accuracy_distance-requires : goal.accuracy_distance-requires
accuracy_distance-requires c =
    let x = c.args in
    let p = x.play in
    let w = p.within in
    let l = c.optimize_last_three in
    let m : c.min_space_needed.result.0 ≤ c.sub-remain_after_300.result.0 = ltb-false _ _ (sym (lt_of _ _ _ c.lt.ensures) ∙ c.if-lt.false) in
    let o = lacks-one p.presence p.counts.n320 p.counts.n300 p.counts.n200 p.counts.n100 p.counts.n50 c.requires.0 in
    let e : sized (last_view l.result) ≡ c.sub-remain_after_300.result.0 = last_few (play_view p) _ _ (last_view l.result) o (omega (arith, m, c.min_space_needed.ensures)) l.ensures in
    let h : c.sub-remain_after_300.result.0 + (x.new320.0 + x.new300.0) ≤ p.remain.0 = omega (arith, c.sub-remain_after_300.ensures, c.add.ensures, c.requires.1) in
    rw c.of-result.ensures (record {
      n320 = omega (arith, w.hits, h);
      n300 = omega (arith, w.hits, h);
      n200 = omega (arith, w.hits, h, e);
      n100 = omega (arith, w.hits, h, e);
      n50 = omega (arith, w.hits, h, e);
      misses = w.few.misses;
    })

pub returns : goal.returns
returns c =
    let x = c.args in
    let t = lt_of _ _ _ c.lt.ensures in
    inner-take first_two (play_view x.play) x.new320.0 x.new300.0 (best_view x.self)
    (rw (← c.min_space_needed.ensures, ← c.add.ensures, ← c.sub-remain_after_300.ensures) (sym t ∙ c.if-lt.false))
    (c.optimize_last_three.ensures ∙ rw (c.add-2.ensures, c.mul-2.ensures, c.mul.ensures, c.sub-remain_after_300.ensures, c.add.ensures)) c.of-result.ensures c.accuracy_distance.ensures c.offer.ensures
