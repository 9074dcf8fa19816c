-- The counts of `ignore_acc` sum to the total hits: what a pass assigns and what then remains are what remained before.
-- Assumes nothing.
use mathlib.Core.Path.{◌≡◌, refl, ap, ◌∙◌}
use mathlib.Core.Option.{Option, none, some}
use Prim.Native.Nat.{ℕ, ◌+◌, ◌≤◌, zero-le}
use native.Mathlib.Omega.{arith}
use Rattle.score_state.specs.declared.HitResults.{HitResults}
use Rattle.score_state.specs.Given.{or}
use Rattle.score_state.specs.Points as Points
use Rattle.score_state.specs.Points.{hits}
use Rattle.inspect.specs.Inspect.{Inspect, HitResultPriority, BestCase, WorstCase, capped_misses, misses, remain, total_hits}
use Rattle.ignore_acc.specs.IgnoreAcc.{Assigned, assign_specified, unwrap_or_else, five_sum, second_pass, add_shortfall, passes, best_case, worst_case, by_priority, ignore_acc}

assign_at : (o : Option ℕ) (r : ℕ) → or (assign_specified o r).count 0 + (assign_specified o r).remain ≡ r
unfolding assign_specified or
assign_at none r = omega arith
assign_at (some n) r = omega arith

assign_sum : (o : Option ℕ) (r : ℕ) (x : Assigned) → x ≡ assign_specified o r → or x.count 0 + x.remain ≡ r
assign_sum o r x e = ap (λ (y : Assigned). or y.count 0 + y.remain) e ∙ assign_at o r

fill-sum : (o : Option ℕ) (r : ℕ) → (unwrap_or_else o r).count + (unwrap_or_else o r).remain ≡ or o 0 + r
unfolding unwrap_or_else or
fill-sum none r = omega arith
fill-sum (some n) r = refl

second-sum
    : (a b c d e : Assigned)
    → five_sum (second_pass a b c d e) ≡ or a.count 0 + or b.count 0 + or c.count 0 + or d.count 0 + or e.count 0 + e.remain
unfolding second_pass
second-sum a b c d e =
    let first = unwrap_or_else a.count e.remain in
    let second = unwrap_or_else b.count first.remain in
    let third = unwrap_or_else c.count second.remain in
    let fourth = unwrap_or_else d.count third.remain in
    omega (
      arith,
      fill-sum a.count e.remain,
      fill-sum b.count first.remain,
      fill-sum c.count second.remain,
      fill-sum d.count third.remain,
      fill-sum e.count fourth.remain,
    )

-- what the first pass assigns, and what then remains
assigned_sum
    : (r : ℕ) (a b c d e : Option ℕ) (x1 x2 x3 x4 x5 : Assigned)
    → x1 ≡ assign_specified a r → x2 ≡ assign_specified b x1.remain → x3 ≡ assign_specified c x2.remain
    → x4 ≡ assign_specified d x3.remain → x5 ≡ assign_specified e x4.remain
    → or x1.count 0 + or x2.count 0 + or x3.count 0 + or x4.count 0 + or x5.count 0 + x5.remain ≡ r
assigned_sum r a b c d e x1 x2 x3 x4 x5 e1 e2 e3 e4 e5 =
    omega (
      arith,
      assign_sum a r x1 e1,
      assign_sum b x1.remain x2 e2,
      assign_sum c x2.remain x3 e3,
      assign_sum d x3.remain x4 e4,
      assign_sum e x4.remain x5 e5,
    )

-- the two passes together keep the sum
pub filled_sum
    : (r : ℕ) (a b c d e : Option ℕ) (x1 x2 x3 x4 x5 : Assigned)
    → x1 ≡ assign_specified a r → x2 ≡ assign_specified b x1.remain → x3 ≡ assign_specified c x2.remain
    → x4 ≡ assign_specified d x3.remain → x5 ≡ assign_specified e x4.remain
    → five_sum (second_pass x1 x2 x3 x4 x5) ≡ r
filled_sum r a b c d e x1 x2 x3 x4 x5 e1 e2 e3 e4 e5 =
    second-sum x1 x2 x3 x4 x5 ∙ assigned_sum r a b c d e x1 x2 x3 x4 x5 e1 e2 e3 e4 e5

passes-sum : (r : ℕ) (a b c d e : Option ℕ) → five_sum (passes r a b c d e) ≡ r
unfolding passes add_shortfall
passes-sum r a b c d e =
    let first = assign_specified a r in
    let second = assign_specified b first.remain in
    let third = assign_specified c second.remain in
    let fourth = assign_specified d third.remain in
    let fifth = assign_specified e fourth.remain in
    omega (arith, filled_sum r a b c d e first second third fourth fifth refl refl refl refl refl)

none-remains : (r : ℕ) (a b c d e : Option ℕ) → (passes r a b c d e).remain ≡ 0
unfolding passes add_shortfall
none-remains r a b c d e = refl

best-sum : (i : Inspect) (r m : ℕ) → Points.total_hits (best_case i r m) ≡ r + m
unfolding best_case hits
best-sum i r m = omega (arith, passes-sum r i.n320 i.n300 i.n200 i.n100 i.n50, none-remains r i.n320 i.n300 i.n200 i.n100 i.n50)

worst-sum : (i : Inspect) (r m : ℕ) → Points.total_hits (worst_case i r m) ≡ r + m
unfolding worst_case hits
worst-sum i r m = omega (arith, passes-sum r i.n50 i.n100 i.n200 i.n300 i.n320, none-remains r i.n50 i.n100 i.n200 i.n300 i.n320)

either-sum : (p : HitResultPriority) (x y : HitResults) (t : ℕ) → Points.total_hits x ≡ t → Points.total_hits y ≡ t → Points.total_hits (by_priority p x y) ≡ t
unfolding by_priority
either-sum BestCase x y t e f = e
either-sum WorstCase x y t e f = f

capped_le : (o : Option ℕ) (t : ℕ) → capped_misses o t ≤ t
unfolding capped_misses
capped_le none t = zero-le
capped_le (some n) t = omega arith

-- the hits that remain and the misses
pub whole : (i : Inspect) → remain i + misses i ≡ total_hits i
unfolding remain misses
whole i = omega (arith, capped_le i.misses (total_hits i))

pub ignore-sum : (i : Inspect) → Points.total_hits (ignore_acc i) ≡ total_hits i
unfolding ignore_acc
ignore-sum i =
    either-sum i.priority (best_case i (remain i) (misses i)) (worst_case i (remain i) (misses i)) (total_hits i)
    (best-sum i (remain i) (misses i) ∙ whole i)
    (worst-sum i (remain i) (misses i) ∙ whole i)

-- what equals the definition's counts sums to the same
pub sum_of : (x : HitResults) (i : Inspect) → x ≡ ignore_acc i → Points.total_hits x ≡ total_hits i
sum_of x i e = ap Points.total_hits e ∙ ignore-sum i
