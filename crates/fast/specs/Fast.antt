-- fast.rs, `generate_hitresults` (lines 13 to 219), and document 01, fast.rs: "the product and the subtraction round separately,
-- negative is 0, half to even. With five given, Fast and Closest may fall short of total".
-- Where the Rust saturates (`saturating_sub`) and where it takes a difference that is not negative, `-` is that of naturals.
use Rattle.std.specs.Prelude.{ℕ, ◌+◌, ◌-◌, ◌*◌, ◌/◌, min, cond, eqb, ltb, pos, Float}
use Rattle.std.proofs.Math.Option.{Option, none, some}
use Rattle.std.specs.Float.{binary64}
use Rattle.std.specs.Float.Ieee.{sub, of_int}
use Rattle.rounding.specs.Round.{round_even, product}
use Rattle.score_state.specs.declared.HitResults.{HitResults}
use Rattle.score_state.specs.Points as Points
use Rattle.score_state.specs.Points.{perfect_weight}
use Rattle.score_state.specs.Given.{or}
use Rattle.inspect.specs.Inspect.{Inspect, HitResultPriority, BestCase, WorstCase, total_hits, misses, remain}
use Rattle.ignore_acc.specs.IgnoreAcc.{ignore_acc}

-- `if n.is_none() { a } else { b }`
unfoldable pub if_none : Option ℕ → ℕ → ℕ → ℕ
if_none none a b = a
if_none (some n) a b = b

-- ---- prelim_320 to prelim_50 (lines 33 to 46): the given counts, each clamped to what the earlier ones leave

pub record Prelim : Type 0 where
  pub n320 : ℕ
  pub n300 : ℕ
  pub n200 : ℕ
  pub n100 : ℕ
  pub n50 : ℕ

-- `n.map_or(0, |n| cmp::min(n, room))`
unfoldable pub clamped : Option ℕ → ℕ → ℕ
clamped none room = 0
clamped (some n) room = min n room

unfoldable pub prelim : Inspect → ℕ → Prelim
prelim i remaining =
    let n320 = clamped i.n320 remaining in
    let n300 = clamped i.n300 (remaining - n320) in
    let n200 = clamped i.n200 (remaining - n320 - n300) in
    let n100 = clamped i.n100 (remaining - n320 - n300 - n200) in
    let n50 = clamped i.n50 (remaining - n320 - n300 - n200 - n100) in
    record { n320 = n320; n300 = n300; n200 = n200; n100 = n100; n50 = n50 }

-- ---- num_provided (lines 49 to 58)

unfoldable pub provided : Option ℕ → ℕ
provided none = 0
provided (some n) = 1

unfoldable pub num_provided : Option ℕ → Option ℕ → Option ℕ → Option ℕ → Option ℕ → ℕ
num_provided n320 n300 n200 n100 n50 = provided n320 + provided n300 + provided n200 + provided n100 + provided n50

-- ---- all provided (lines 60 to 70); they may fall short of the total

unfoldable pub all_provided : Prelim → ℕ → HitResults
all_provided p missed =
    record { n320 = p.n320; n300 = p.n300; n200 = p.n200; n100 = p.n100; n50 = p.n50; misses = missed }

-- ---- one missing (lines 72 to 117): it takes what is left

abbrev pub used : Prelim → ℕ
used p = p.n320 + p.n300 + p.n200 + p.n100 + p.n50

unfoldable pub one_missing : Inspect → ℕ → ℕ → Prelim → HitResults
one_missing i remaining missed p =
    let left = remaining - used p in
    record {
      n320 = if_none i.n320 left p.n320;
      n300 = if_none i.n300 left p.n300;
      n200 = if_none i.n200 left p.n200;
      n100 = if_none i.n100 left p.n100;
      n50 = if_none i.n50 left p.n50;
      misses = missed;
    }

-- ---- three or fewer provided (lines 119 to 218)

-- numerator (lines 126 to 130): the points of the preliminary counts, w the perfect weight
unfoldable pub numerator : ℕ → Prelim → ℕ
numerator w p = w * p.n320 + 60 * p.n300 + 40 * p.n200 + 20 * p.n100 + 10 * p.n50

-- target_total (lines 134 to 136): the product rounds, and then the subtraction; what is below 0 counts as 0 (`.max(0.0)`) by `round_even`
unfoldable pub target_total : Float → ℕ → ℕ → ℕ
target_total acc denominator numerator = round_even (sub binary64 (product acc denominator) (of_int binary64 (pos numerator)))

-- "Start by assuming every non-miss is an n50 (baseline)" (lines 138 to 141): what the target asks beyond that, 0 where it asks no more
unfoldable pub delta_of : Float → ℕ → ℕ → ℕ → Prelim → ℕ
delta_of acc w total remaining p =
    let baseline = 10 * (remaining - p.n320 - p.n300 - p.n200 - p.n100 - p.n50) in
    target_total acc (w * total) (numerator w p) - baseline

-- one judgement's count, and the delta that is left
pub record Upgraded : Type 0 where
  pub count : ℕ
  pub delta : ℕ

-- `cmp::min(room, n.unwrap_or(delta / increase))`, and `if n.is_none() { delta = delta.saturating_sub(increase * count); }`
unfoldable pub upgrade : Option ℕ → ℕ → ℕ → ℕ → Upgraded
upgrade n room increase delta =
    let count = min room (or n (delta / increase)) in
    record { count = count; delta = if_none n (delta - increase * count) delta }

-- The counts from n320 to n50 (lines 149 to 195), each within the room that the others leave. n50 has no increase: it takes the rest.
unfoldable pub upgrades : Inspect → ℕ → ℕ → ℕ → Prelim → ℕ → HitResults
upgrades i w remaining missed p delta =
    let n320 = upgrade i.n320 (remaining - p.n300 - p.n200 - p.n100 - p.n50) (w - 10) delta in
    let n300 = upgrade i.n300 (remaining - n320.count - p.n200 - p.n100 - p.n50) 50 n320.delta in
    let n200 = upgrade i.n200 (remaining - n320.count - n300.count - p.n100 - p.n50) 30 n300.delta in
    let n100 = upgrade i.n100 (remaining - n320.count - n300.count - n200.count - p.n50) 10 n200.delta in
    let n50 = min (remaining - n320.count - n300.count - n200.count - n100.count) (or i.n50 remaining) in
    record { n320 = n320.count; n300 = n300.count; n200 = n200.count; n100 = n100.count; n50 = n50; misses = missed }

-- The first missing of four in priority order, as 0 to 3; 4, the last arm `_`, where none of them is missing.
unfoldable pub first_missing : Option ℕ → Option ℕ → Option ℕ → Option ℕ → ℕ
first_missing none b c d = 0
first_missing (some w) none c d = 1
first_missing (some w) (some x) none d = 2
first_missing (some w) (some x) (some y) none = 3
first_missing (some w) (some x) (some y) (some z) = 4

-- the place that takes what is left, from 0 for n320 to 4 for n50 (lines 200 to 215)
unfoldable pub left_place : HitResultPriority → Inspect → ℕ
left_place BestCase i = first_missing i.n320 i.n300 i.n200 i.n100
left_place WorstCase i = 4 - first_missing i.n50 i.n100 i.n200 i.n300

-- `+= left` at that place
unfoldable pub plus_left : ℕ → ℕ → HitResults → HitResults
plus_left place left r =
    record {
      n320 = cond (eqb place 0) (r.n320 + left) r.n320;
      n300 = cond (eqb place 1) (r.n300 + left) r.n300;
      n200 = cond (eqb place 2) (r.n200 + left) r.n200;
      n100 = cond (eqb place 3) (r.n100 + left) r.n100;
      n50 = cond (eqb place 4) (r.n50 + left) r.n50;
      misses = r.misses;
    }

-- `if hitresults.total_hits() < total_hits`
unfoldable pub add_left : Inspect → ℕ → HitResults → HitResults
add_left i total r = cond (ltb (Points.total_hits r) total) (plus_left (left_place i.priority i) (total - Points.total_hits r) r) r

unfoldable pub three_or_fewer : Float → Inspect → ℕ → ℕ → ℕ → Prelim → HitResults
three_or_fewer acc i total remaining missed p =
    let w = perfect_weight i.classic in
    add_left i total (upgrades i w remaining missed p (delta_of acc w total remaining p))

-- ---- the whole

-- five given, four given, or fewer
unfoldable pub provide : Float → Inspect → HitResults
provide acc i =
    let p = prelim i (remain i) in
    let n = num_provided i.n320 i.n300 i.n200 i.n100 i.n50 in
    cond (eqb n 5) (all_provided p (misses i))
    (cond (eqb n 4) (one_missing i (remain i) (misses i) p)
    (three_or_fewer acc i (total_hits i) (remain i) (misses i) p))

-- with remain 0 (lines 22 to 31) five zeros
unfoldable pub with_acc : Float → Inspect → HitResults
with_acc acc i =
    cond (eqb (remain i) 0)
    (record { n320 = 0; n300 = 0; n200 = 0; n100 = 0; n50 = 0; misses = misses i })
    (provide acc i)

-- without acc (lines 14 to 16) it is IgnoreAccuracy
unfoldable pub by_acc : Option Float → Inspect → HitResults
by_acc none i = ignore_acc i
by_acc (some acc) i = with_acc acc i

unfoldable pub fast : Inspect → HitResults
fast i = by_acc i.acc i
