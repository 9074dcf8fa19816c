-- What the checks leave of a relay that none of them stops.
-- Assumes nothing.
use Prim.Native.Nat.{ℕ, zero, suc, ◌+◌, ◌%◌, ◌<◌, ◌≤◌}
use mathlib.Core.Bool.{Bool, false, not, cond, ◌||◌}
use mathlib.Core.List.{List}
use mathlib.Core.Option.{Option}
use mathlib.Core.Path.{◌≡◌}
use native.Mathlib.Nat.{zero-add, add-zero}
use native.Mathlib.Omega.{arith}
use lib.Dec.{eqb, ltb}
use lib.Ieee.{Float}
use lib.ListN.{length}
use borrow.Author.Tests.{ltb-false}
use Rattle.score_state.specs.Given.{or}
use Rattle.inspect.specs.Checks.{chart_limit, chart_over, acc_outside, Domain}
use Rattle.inspect.proofs.Checked.{passes, goes_on}
use Rattle.nearest_laws.proofs.Near.{neither}
use Rattle.nearest_laws.proofs.Nearest.{neither_left}
use Rattle.relay_laws.specs.Consecutive.{consecutive}
use Rattle.relay_laws.specs.Plays.{Play, play_at, chart_count, plays_of, play_query}
use Rattle.relay_laws.specs.Checks.{any_of, bad_count, numbers_for, over_chart, over_misses, Playable, relay_stop}

-- a chart that 7 does not stop has a query in document 01's domain
pub play_domain : (classic : Bool) (p : Play) → over_chart p ≡ false → Domain (play_query classic p)
unfolding play_query chart_over or
play_domain classic p e =
    let objects = ltb chart_limit p.chart.n_objects in
    let holds = ltb chart_limit p.chart.n_hold_notes in
    record {
      objects = ltb-false _ _ (neither_left objects holds e);
      holds = ltb-false _ _ (neither objects holds e);
      method = omega arith;
      priority = omega arith;
      n320 = omega arith;
      n300 = omega arith;
      n200 = omega arith;
      n100 = omega arith;
      n50 = omega arith;
      acc = tt;
    }

none-at : (f : Play → Bool) (s : List ℕ) (k n j : ℕ) → j < n → any_of f (consecutive (play_at s) k n) ≡ false → f (play_at s (k + j)) ≡ false
unfolding any_of consecutive
none-at f s k zero j h e = absurd (omega arith)
none-at f s k (suc n) zero h e = rw add-zero (neither_left (f (play_at s k)) (any_of f (consecutive (play_at s) (suc k) n)) e)
none-at f s k (suc n) (suc j) h e =
    let m : k + suc j ≡ suc k + j = omega arith in
    rw m (none-at f s (suc k) n j (omega arith) (neither (f (play_at s k)) (any_of f (consecutive (play_at s) (suc k) n)) e))

-- at most eight charts, room for their numbers, none of them over, and an accuracy inside
pub record Passed (acc : Option Float) (s : List ℕ) (room : ℕ) : Type 0 where
  pub few : chart_count s ≤ 8
  pub fits : numbers_for (chart_count s) ≤ room
  pub playable : Playable s
  pub inside : acc_outside acc ≡ false

pub passed : (acc : Option Float) (s : List ℕ) (room : ℕ) → relay_stop acc s room ≡ 0 → Passed acc s room
unfolding relay_stop bad_count
passed acc s room e =
    let n = chart_count s in
    let triple = not (eqb (length s % 3) 0) in
    let few = ltb n 2 in
    let b21 = bad_count (length s) in
    let b5 = ltb room (numbers_for n) in
    let b7 = any_of over_chart (plays_of s) in
    let b10 = any_of over_misses (plays_of s) in
    let b11 = acc_outside acc in
    let r11 : ℕ = cond b11 11 0 in
    let r10 : ℕ = cond b10 10 r11 in
    let r7 : ℕ = cond b7 7 r10 in
    let r5 : ℕ = cond b5 5 r7 in
    let e5 : r5 ≡ 0 = goes_on b21 21 r5 (omega arith) e in
    let e7 : r7 ≡ 0 = goes_on b5 5 r7 (omega arith) e5 in
    let e10 : r10 ≡ 0 = goes_on b7 7 r10 (omega arith) e7 in
    let e11 : r11 ≡ 0 = goes_on b10 10 r11 (omega arith) e10 in
    let count : b21 ≡ false = passes b21 21 r5 (omega arith) e in
    let over : b7 ≡ false = passes b7 7 r10 (omega arith) e7 in
    record {
      few = ltb-false 8 n (neither few (ltb 8 n) (neither triple (few || ltb 8 n) count));
      fits = ltb-false room (numbers_for n) (passes b5 5 r7 (omega arith) e5);
      playable = λ k h. rw zero-add at (none-at over_chart s 0 n k h over);
      inside = passes b11 11 0 (omega arith) e11;
    }
