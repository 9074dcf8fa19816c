-- `closest::Play::of` makes the play of the query, whose numbers are within their limits. Assumes nothing.
use native.Mathlib.Nat.{mul-le-mul}
use native.Mathlib.Omega.{arith}
use Rattle.inspect.specs.Presence.{has, unwrap_or_zero}
use Rattle.inspect.specs.Inspect.{inspect_of}
use Rattle.inspect.proofs.Checked.{remain_and_misses}
use Rattle.closest_laws.proofs.Bits.{or_zeroed, zeroed_le}
use Rattle.closest_laws.proofs.Fills.{perfect-heavy}
use Rattle.closest.proofs.Play.of.Goals as goal

pub invariant_of-result : goal.invariant_of-result
unfolding unwrap_or_zero
invariant_of-result c =
    let q = c.args.q in
    let k = q.presence in
    let d = c.requires in
    let w = c.perfect_weight-w320.ensures in
    let t = c.total_hits.ensures in
    let m = c.misses.ensures in
    rw (c.unwrap_or_zero.ensures, c.of-counts.ensures) (record {
      within = record {
        heavy = rw w.0 (perfect-heavy q.classic);
        top = w.1;
        hits = omega (arith, c.remain.ensures.0, remain_and_misses (inspect_of q), m.0, t.0, t.1);
        aim = omega (arith, c.target_of.ensures.1, mul-le-mul w.1 t.1);
        few = record {
          n320 = zeroed_le (has k 1) q.n320 _ d.n320;
          n300 = zeroed_le (has k 2) q.n300 _ d.n300;
          n200 = zeroed_le (has k 4) q.n200 _ d.n200;
          n100 = zeroed_le (has k 8) q.n100 _ d.n100;
          n50 = zeroed_le (has k 16) q.n50 _ d.n50;
          misses = omega (arith, m, t.0, t.1);
        };
        zero320 = or_zeroed (has k 1) q.n320;
        zero300 = or_zeroed (has k 2) q.n300;
        zero200 = or_zeroed (has k 4) q.n200;
        zero100 = or_zeroed (has k 8) q.n100;
        zero50 = or_zeroed (has k 16) q.n50;
      };
    })
