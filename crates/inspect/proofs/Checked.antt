-- What the checks that every method shares leave: document 01's domain; and small facts that the proofs of this crate cite.
-- Assumes nothing.
use mathlib.Core.Path.{◌≡◌, refl, sym, ap, ◌∙◌, subst}
use mathlib.Core.Bool.{Bool, true, false, not, cond, ◌&&◌, ◌||◌, true≢false}
use mathlib.Core.Option.{Option, none, some}
use Prim.Native.Nat.{ℕ, ◌+◌, ◌*◌, ◌≤◌, ◌<◌, min}
use native.Mathlib.Nat.{mul-le-mul, le_refl, le_trans}
use native.Mathlib.Omega.{arith}
use borrow.Author.Tests.{ltb-false, le-ltb}
use lib.Dec.{T, ltb}
use lib.Ieee.{Float, le}
use Rattle.rounding.specs.Round.{zero64, one64}
use Rattle.score_state.specs.Accuracy.{cap}
use Rattle.score_state.specs.Given.{option_of, or}
use Rattle.score_state.proofs.Caps.{or_left, or_right}
use Rattle.inspect.specs.Presence.{given}
use Rattle.inspect.specs.Inspect.{Inspect, inspect_of, acc_of, shortened, total_hits, capped_misses, misses, remain}
use Rattle.inspect.proofs.Total.{total-classic, total-holds}
use Rattle.inspect.specs.declared.Accuracy.{Accuracy}
use Rattle.inspect.specs.declared.Accuracy.TheVariants.{Given}
use Rattle.inspect.specs.Checks.{chart_over, chart_limit, unknown_code, over_cap, count_over, acc_outside, stop_of, InRange, Domain}
use Rattle.inspect.specs.declared.Chart.{Chart}
use Rattle.inspect.specs.declared.Query.{Query}

-- ---- `stop_of` is 0 exactly where no check holds
-- one check in front of others: where the whole is 0, the check does not hold, and the others are 0
pub passes : (b : Bool) (n : ℕ) (rest : ℕ) → 0 < n → cond b n rest ≡ 0 → b ≡ false
passes true n rest p e = absurd (omega arith)
passes false n rest p e = refl

pub goes_on : (b : Bool) (n : ℕ) (rest : ℕ) → 0 < n → cond b n rest ≡ 0 → rest ≡ 0
goes_on true n rest p e = absurd (omega arith)
goes_on false n rest p e = e

within_cap : (g : Option ℕ) → over_cap g ≡ false → or g 0 ≤ cap
unfolding over_cap or
within_cap none e = omega arith
within_cap (some n) e = ltb-false cap n e

pub in_range : (a : Option Float) → acc_outside a ≡ false → InRange a
unfolding acc_outside
in_range none e = tt
in_range (some x) e = both (le zero64 x) (le x one64) e
  where
    both : (a b : Bool) → not (a && b) ≡ false → T a × T b
    both true true e = (tt, tt)
    both true false e = absurd (true≢false e)
    both false b e = absurd (true≢false e)

pub domain : (q : Query) → stop_of q ≡ 0 → Domain q
unfolding stop_of chart_over unknown_code count_over
domain q e =
    let i = inspect_of q in
    let c7 = ltb chart_limit q.chart.n_objects || ltb chart_limit q.chart.n_hold_notes in
    let c8 = ltb 3 q.method || ltb 1 q.priority in
    let c10 = count_over i in
    let c11 = acc_outside i.acc in
    let r8 : ℕ = cond c8 8 (cond c10 10 (cond c11 11 0)) in
    let r10 : ℕ = cond c10 10 (cond c11 11 0) in
    let r11 : ℕ = cond c11 11 0 in
    let e7 : c7 ≡ false = passes c7 7 r8 (omega arith) e in
    let s8 : r8 ≡ 0 = goes_on c7 7 r8 (omega arith) e in
    let e8 : c8 ≡ false = passes c8 8 r10 (omega arith) s8 in
    let s10 : r10 ≡ 0 = goes_on c8 8 r10 (omega arith) s8 in
    let e10 : c10 ≡ false = passes c10 10 r11 (omega arith) s10 in
    let s11 : r11 ≡ 0 = goes_on c10 10 r11 (omega arith) s10 in
    let e11 : c11 ≡ false = passes c11 11 0 (omega arith) s11 in
    let h5 : over_cap i.n320 || over_cap i.n300 || over_cap i.n200 || over_cap i.n100 || over_cap i.n50 ≡ false =
    or_left (over_cap i.n320 || over_cap i.n300 || over_cap i.n200 || over_cap i.n100 || over_cap i.n50) (over_cap i.misses) e10 in
    let h4 : over_cap i.n320 || over_cap i.n300 || over_cap i.n200 || over_cap i.n100 ≡ false =
    or_left (over_cap i.n320 || over_cap i.n300 || over_cap i.n200 || over_cap i.n100) (over_cap i.n50) h5 in
    let h3 : over_cap i.n320 || over_cap i.n300 || over_cap i.n200 ≡ false =
    or_left (over_cap i.n320 || over_cap i.n300 || over_cap i.n200) (over_cap i.n100) h4 in
    let h2 : over_cap i.n320 || over_cap i.n300 ≡ false = or_left (over_cap i.n320 || over_cap i.n300) (over_cap i.n200) h3 in
    record {
      objects = ltb-false chart_limit q.chart.n_objects (or_left (ltb chart_limit q.chart.n_objects) (ltb chart_limit q.chart.n_hold_notes) e7);
      holds = ltb-false chart_limit q.chart.n_hold_notes (or_right (ltb chart_limit q.chart.n_objects) (ltb chart_limit q.chart.n_hold_notes) e7);
      method = ltb-false 3 q.method (or_left (ltb 3 q.method) (ltb 1 q.priority) e8);
      priority = ltb-false 1 q.priority (or_right (ltb 3 q.method) (ltb 1 q.priority) e8);
      n320 = within_cap i.n320 (or_left (over_cap i.n320) (over_cap i.n300) h2);
      n300 = within_cap i.n300 (or_right (over_cap i.n320) (over_cap i.n300) h2);
      n200 = within_cap i.n200 (or_right (over_cap i.n320 || over_cap i.n300) (over_cap i.n200) h3);
      n100 = within_cap i.n100 (or_right (over_cap i.n320 || over_cap i.n300 || over_cap i.n200) (over_cap i.n100) h4);
      n50 = within_cap i.n50 (or_right (over_cap i.n320 || over_cap i.n300 || over_cap i.n200 || over_cap i.n100) (over_cap i.n50) h5);
      acc = in_range i.acc e11;
    }

-- what a query is known to be once `stop_of` has answered n, which is 0
pub in_domain : (q : Query) (n : ℕ) → n ≡ stop_of q → n ≤ 0 → Domain q
in_domain q n e h = let z : n ≡ 0 = omega arith in domain q (sym e ∙ z)

-- ---- for the proofs of functions
-- a check of an optional count, whose bit was read by `is_given`
pub told : (r b h v : Bool) (n : ℕ) → r ≡ over_cap (given b n) → b ≡ h → r ≡ v → over_cap (given h n) ≡ v
told r b h v n e f t = ap (λ (x : Bool). over_cap (given x n)) (sym f) ∙ sym e ∙ t

-- misses are at most the total hits, and so remain and misses make the total
pub misses-le : (i : Inspect) → misses i ≤ total_hits i
unfolding misses capped_misses
misses-le i = go i.misses
  where
    go : (g : Option ℕ) → capped_misses g (total_hits i) ≤ total_hits i
    go none = omega arith
    go (some n) = omega arith

pub remain_and_misses : (i : Inspect) → remain i + misses i ≡ total_hits i
unfolding remain
remain_and_misses i = omega (arith, misses-le i)

-- what is passed is at most all there is
pub shortened-le : (passed : Option ℕ) (all : ℕ) → shortened passed all ≤ all
unfolding shortened
shortened-le none all = le_refl all
shortened-le (some n) all = omega arith

-- a chart within the limits is so with fewer hold notes
pub chart_within : (c : Chart) (n : ℕ) → n ≤ c.n_hold_notes → chart_over c ≡ false → chart_over (record { n_objects = c.n_objects; n_hold_notes = n }) ≡ false
unfolding chart_over
chart_within c n h e =
    let objects = ltb chart_limit c.n_objects in
    let holds = ltb chart_limit c.n_hold_notes in
    rw (or_left objects holds e, le-ltb chart_limit n (le_trans h (ltb-false chart_limit c.n_hold_notes (or_right objects holds e))))

-- at most 100,000 objects and 100,000 hold notes, however many of either are passed
pub both_within : (i : Inspect) → i.objects ≤ chart_limit → i.holds ≤ chart_limit → shortened i.passed i.objects + shortened i.holds_passed i.holds ≤ 200_000
both_within i h k = omega (arith, shortened-le i.passed i.objects, shortened-le i.holds_passed i.holds)

pub total_within : (q : Query) → Domain q → total_hits (inspect_of q) ≤ 200_000
total_within q d = go q.classic refl
  where
    most : shortened (inspect_of q).passed q.chart.n_objects + shortened (option_of q.holds) q.chart.n_hold_notes ≤ 200_000
    most = both_within (inspect_of q) d.objects d.holds

    go : (b : Bool) → q.classic ≡ b → total_hits (inspect_of q) ≤ 200_000
    go true c = omega (arith, total-classic q c, most)
    go false c = omega (arith, total-holds q c, most)

pub whole_within : (w n : ℕ) → w ≤ 100 → n ≤ 200_000 → w * n ≤ 20_000_000
whole_within w n h k = mul-le-mul h k

-- the same of a relay's hits
pub pooled_within : (w n : ℕ) → w ≤ 100 → n ≤ 1_600_000 → w * n ≤ 160_000_000
pooled_within w n h k = mul-le-mul h k

pub misses-given
    : (i : Inspect) (b : Bool) (n t r : ℕ) → i.misses ≡ given b n → b ≡ true → t ≡ total_hits i → r ≡ min n t → r ≡ misses i
unfolding misses capped_misses
misses-given i b n t r e eb et er =
    er ∙ ap (λ (x : ℕ). min n x) et ∙ ap (λ (g : Option ℕ). capped_misses g (total_hits i)) (sym (e ∙ ap (λ (x : Bool). given x n) eb))

-- the accuracy of a query that no check stops, where it is given, lies in 0 to 1
pub acc_within : (q : Query) (acc : Float) → Domain q → q.acc ≡ Given acc → T (le zero64 acc) × T (le acc one64)
acc_within q acc d a = subst (λ (x : Accuracy). InRange (acc_of x)) a d.acc
