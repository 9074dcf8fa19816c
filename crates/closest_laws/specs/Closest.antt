-- closest.rs, `generate_hitresults` for `Closest` where acc is given (lines 13 to 160), with the four functions below it; and
-- document 01, closest.rs. A definition stands below those it uses, so `generate_hitresults` comes last here.
-- Floors, ceilings and roundings of quotients are those of the exact fractions, as the Rust's f64s have them (crate `closest_f64`).
-- `T - (..)` is 0 where the Rust's difference is negative and `.max(0.0)` or a cast to u32 makes it 0; `saturating_sub` is `-`.
-- `span` is what a loop `lo..=hi` runs through: all of it in the Rust's search, which is `range`.
use Rattle.std.specs.Prelude.{ℕ, zero, suc, ◌+◌, ◌-◌, ◌*◌, ◌/◌, min, cond, List, [], ◌∷◌, ltb, eqb, length, get_or, Float}
use Rattle.std.proofs.Math.Option.{Option, none, some}
use Rattle.std.specs.Float.{binary64}
use Rattle.std.specs.Float.Ieee.{lt, of_bits}
use Rattle.std.specs.Float.Ieee.Nearest.{closest}
use Rattle.rounding.specs.Distance.{ratio, distance}
use Rattle.rounding.specs.Quotient.{rounded_up}
use Rattle.score_state.specs.Points.{perfect_weight}
use Rattle.units.specs.Gap.{gap}
use Rattle.score_state.specs.Given.{or, missing, given_hits, given_points, fill}
use Rattle.score_state.specs.Accuracy.{accuracy_of}
use Rattle.score_state.specs.declared.HitResults.{HitResults}
use Rattle.inspect.specs.Inspect.{Inspect, total_hits, misses, remain}
use Rattle.inspect.specs.Target.{target}
use Rattle.score_state.specs.Answer.{Answer, worked, refused}
use Rattle.closest_laws.specs.Loops.{range, first_two, each, Kept, scan, nearer}

-- ---- numbers

-- f64::MAX
abbrev pub max64 : Float
max64 = of_bits binary64 0x7fef_ffff_ffff_ffff

-- the nine arguments that the Rust's functions hand on
pub record Play : Type 0 where
  pub w320 : ℕ
  -- target_numerator
  pub target : ℕ
  pub remain : ℕ
  pub misses : ℕ
  pub n320 : Option ℕ
  pub n300 : Option ℕ
  pub n200 : Option ℕ
  pub n100 : Option ℕ
  pub n50 : Option ℕ

-- the five optional counts and their weights, from n320 to n50
abbrev pub provided : Play → List (Option ℕ)
provided p = p.n320 ∷ p.n300 ∷ p.n200 ∷ p.n100 ∷ p.n50 ∷ []

abbrev pub weights : Play → List ℕ
weights p = p.w320 ∷ 60 ∷ 40 ∷ 20 ∷ 10 ∷ []

-- five counts and the misses as a result
unfoldable pub result_of : List ℕ → ℕ → HitResults
result_of xs misses =
    record { n320 = get_or xs 0 0; n300 = get_or xs 1 0; n200 = get_or xs 2 0; n100 = get_or xs 3 0; n50 = get_or xs 4 0; misses = misses }

-- ---- optimize_two_missing (lines 218 to 347)

-- h hits go to the weights w1 and w2, beside P points of the given counts: x of them to w1
unfoldable pub split_at : ℕ → ℕ → ℕ → ℕ → ℕ → ℕ → Kept (Option ℕ) (List ℕ)
split_at w1 w2 T h P x = record { dist = some (gap (P + (w1 * x + w2 * (h - x))) T); result = x ∷ (h - x) ∷ [] }

-- the loop of solve_two_vars over its four numbers of hits: the first at the least distance
abbrev pub best_split : ℕ → ℕ → ℕ → ℕ → ℕ → List ℕ → List ℕ
best_split w1 w2 T h P xs = (scan nearer (each xs (λ x. split_at w1 w2 T h P x ∷ [])) (record { dist = none; result = 0 ∷ h ∷ [] })).result

-- solve_two_vars
unfoldable pub solve_two : ℕ → ℕ → ℕ → ℕ → ℕ → List ℕ
solve_two w1 w2 T h P =
    let over = T - (P + w2 * h) in
    cond (eqb w1 w2) (h / 2 ∷ (h - h / 2) ∷ [])
    (best_split w1 w2 T h P (0 ∷ min h (over / (w1 - w2)) ∷ min h (rounded_up over (w1 - w2)) ∷ h ∷ []))

-- of the two missing weights, the heavier first
unfoldable pub solve : List ℕ → ℕ → ℕ → ℕ → List ℕ
solve [] T h P = []
solve (w1 ∷ []) T h P = []
solve (w1 ∷ (w2 ∷ ws)) T h P = solve_two w1 w2 T h P

unfoldable pub plain_optimize_two_missing : Play → HitResults
plain_optimize_two_missing p =
    let remain_hits = p.remain - given_hits (provided p) in
    let provided_sum = given_points (weights p) (provided p) in
    result_of (fill (provided p) (solve (missing (weights p) (provided p)) p.target remain_hits provided_sum)) p.misses

-- ---- optimize_last_three (lines 470 to 553): r hits are left, A points are earned, target_score is T - A

pub record Last : Type 0 where
  pub n200 : ℕ
  pub n100 : ℕ
  pub n50 : ℕ

-- all three missing, n of them n200
unfoldable pub last_at : ℕ → ℕ → ℕ → ℕ → Kept (Option ℕ) Last
last_at r A T n =
    let k = r - n in
    let n100 = min k (closest (T - (A + 40 * n + 10 * k)) 10) in
    let n50 = k - n100 in
    record { dist = some (gap (A + (40 * n + 20 * n100 + 10 * n50)) T); result = record { n200 = n; n100 = n100; n50 = n50 } }

-- min200..=max200
abbrev pub values200 : (ℕ → ℕ → List ℕ) → ℕ → ℕ → ℕ → List ℕ
values200 span r A T = span ((T - (A + 20 * r)) / 20) (min r (rounded_up (T - A) 40 + 1))

unfoldable pub plain_optimize_last_three : (ℕ → ℕ → List ℕ) → Option ℕ → Option ℕ → Option ℕ → ℕ → ℕ → ℕ → Last
plain_optimize_last_three span (some n2) (some n1) (some n5) r A T = record { n200 = n2; n100 = n1; n50 = n5 }
plain_optimize_last_three span (some n2) (some n1) none r A T = record { n200 = n2; n100 = n1; n50 = r - (n2 + n1) }
plain_optimize_last_three span (some n2) none (some n5) r A T = record { n200 = n2; n100 = r - (n2 + n5); n50 = n5 }
plain_optimize_last_three span none (some n1) (some n5) r A T = record { n200 = r - (n1 + n5); n100 = n1; n50 = n5 }
plain_optimize_last_three span (some n2) none none r A T =
    let k = r - n2 in
    let n100 = min k (closest (T - (A + 40 * n2 + 10 * k)) 10) in
    record { n200 = n2; n100 = n100; n50 = k - n100 }
plain_optimize_last_three span none (some n1) none r A T =
    let k = r - n1 in
    let n200 = min k (closest (T - (A + 20 * n1 + 10 * k)) 30) in
    record { n200 = n200; n100 = n1; n50 = k - n200 }
plain_optimize_last_three span none none (some n5) r A T =
    let k = r - n5 in
    let n200 = min k (closest (T - (A + 10 * n5 + 20 * k)) 20) in
    record { n200 = n200; n100 = k - n200; n50 = n5 }
plain_optimize_last_three span none none none r A T =
    (scan nearer (each (values200 span r A T) (λ n. last_at r A T n ∷ [])) (record { dist = none; result = record { n200 = 0; n100 = 0; n50 = r } })).result

-- ---- optimize_three_plus_missing (lines 351 to 467)

-- min_space_needed
unfoldable pub space : Play → ℕ
space p = or p.n200 0 + or p.n100 0 + or p.n50 0

-- n320_values and n300_values: a given count is clamped to the room, a missing one runs from lo to hi within it
unfoldable pub values : (ℕ → ℕ → List ℕ) → Option ℕ → ℕ → ℕ → ℕ → List ℕ
values span (some n) room lo hi = min n room ∷ []
values span none room lo hi = span (min room lo) (min room hi)

unfoldable pub values320 : (ℕ → ℕ → List ℕ) → Play → List ℕ
values320 span p =
    values span p.n320 (p.remain - space p) ((p.target - 10 * p.remain) / (p.w320 - 10)) (rounded_up p.target p.w320 + 1)

unfoldable pub values300 : (ℕ → ℕ → List ℕ) → Play → ℕ → List ℕ
values300 span p x =
    let left = p.remain - x in
    let earned = p.w320 * x in
    values span p.n300 (left - space p) ((p.target - (earned + 10 * left)) / 50) (rounded_up (p.target - earned) 60 + 1)

-- the candidate with x n320 and y n300
unfoldable pub plain_result_at : (ℕ → ℕ → List ℕ) → Play → ℕ → ℕ → HitResults
plain_result_at span p x y =
    let l = plain_optimize_last_three span p.n200 p.n100 p.n50 (p.remain - (x + y)) (p.w320 * x + 60 * y) p.target in
    record { n320 = x; n300 = y; n200 = l.n200; n100 = l.n100; n50 = l.n50; misses = p.misses }

-- with its distance: an f64, since its rounding decides ties
unfoldable pub try_at : Play → HitResults → Kept Float HitResults
try_at p c =
    let actual = accuracy_of c (eqb p.w320 60) in
    let goal = ratio p.target (p.w320 * (p.remain + p.misses)) in
    record { dist = distance actual goal; result = c }

-- the body of the inner loop: one candidate, unless the given counts have no room
unfoldable pub inner : (ℕ → ℕ → List ℕ) → Play → ℕ → ℕ → List (Kept Float HitResults)
inner span p x y = cond (ltb (p.remain - (x + y)) (space p)) [] (try_at p (plain_result_at span p x y) ∷ [])

-- the body of the outer loop
unfoldable pub outer : (ℕ → ℕ → List ℕ) → Play → ℕ → List (Kept Float HitResults)
outer span p x = cond (ltb (p.remain - x) (space p)) [] (each (values300 span p x) (inner span p x))

-- before any candidate
unfoldable pub start : Play → Kept Float HitResults
start p = record {
  dist = max64;
  result = record {
    n320 = or p.n320 0;
    n300 = or p.n300 0;
    n200 = or p.n200 0;
    n100 = or p.n100 0;
    n50 = or p.n50 p.remain;
    misses = p.misses;
  };
}

unfoldable pub search : (ℕ → ℕ → List ℕ) → Play → HitResults
search span p = (scan lt (each (values320 span p) (outer span p)) (start p)).result

unfoldable pub plain_optimize_three_plus_missing : Play → HitResults
plain_optimize_three_plus_missing p = search range p

-- each loop over its first two values only; no function of the Rust
unfoldable pub capped_search : Play → HitResults
capped_search p = search first_two p

-- ---- generate_hitresults (lines 13 to 160) and optimize_hitresults (lines 173 to 214)

-- "All provided - just clamp": each given count to what those before it leave
unfoldable pub clamp : List (Option ℕ) → ℕ → List (Option ℕ)
clamp [] left = []
clamp (none ∷ gs) left = none ∷ clamp gs left
clamp (some n ∷ gs) left = some (min n left) ∷ clamp gs (left - min n left)

-- "Only one missing - calculate it directly": it takes the rest. With five given nothing takes it.
unfoldable pub clamp_and_fill : Play → HitResults
clamp_and_fill p =
    let clamped = clamp (provided p) p.remain in
    result_of (fill clamped ((p.remain - given_hits clamped) ∷ [])) p.misses

-- the six counts of an answer
abbrev pub six : HitResults → List ℕ
six r = r.n320 ∷ r.n300 ∷ r.n200 ∷ r.n100 ∷ r.n50 ∷ r.misses ∷ []

-- by the number of missing counts; where the given ones are over remain, two missing are check 12, as the Rust overflows
unfoldable pub by_missing : ℕ → Play → Answer (List ℕ)
by_missing zero p = worked (six (clamp_and_fill p))
by_missing (suc zero) p = worked (six (clamp_and_fill p))
by_missing (suc (suc zero)) p = cond (ltb p.remain (given_hits (provided p))) (refused 12) (worked (six (plain_optimize_two_missing p)))
by_missing (suc (suc (suc n))) p = worked (six (plain_optimize_three_plus_missing p))

unfoldable pub play_of : Inspect → Float → Play
play_of i acc = record {
  w320 = perfect_weight i.classic;
  target = target acc (perfect_weight i.classic) (total_hits i);
  remain = remain i;
  misses = misses i;
  n320 = i.n320;
  n300 = i.n300;
  n200 = i.n200;
  n100 = i.n100;
  n50 = i.n50;
}

unfoldable pub closest_at : Inspect → Float → Answer (List ℕ)
closest_at i acc =
    let p = play_of i acc in
    cond (eqb (remain i) 0) (worked (0 ∷ 0 ∷ 0 ∷ 0 ∷ 0 ∷ misses i ∷ []))
    (by_missing (length (missing (weights p) (provided p))) p)
