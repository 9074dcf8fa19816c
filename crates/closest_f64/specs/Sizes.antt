-- closest.rs once more, for the sizes of its numbers: each u32 or i64 sum, product and difference that a call computes, in the
-- Rust's order, with its line and its exact value, as a whole number that may lie outside the type. A build with overflow checks
-- stops at the first that does. What a line takes from an earlier one is Rust.antt's.
-- Not listed, as nothing there can overflow: `min`, `saturating_sub`, `unwrap_or`, `/ 2`, comparisons and loops `lo..=hi`; a cast of
-- an f64 to u32 or i64, which saturates; `i64::from`, `f64::from` and `as f64`, which have a value for each; the `count()` of five.
use Rattle.std.specs.Prelude.{ℕ, suc, ◌+◌, ◌-◌, ◌*◌, ◌/◌, ◌^◌, min, Bool, false, cond, List, [], ◌∷◌, ◌++◌, ltb, eqb, ℤ, pos, negsuc, nat_abs, ◌+ℤ◌, ◌-ℤ◌, ◌*ℤ◌, Float}
use Rattle.std.proofs.Math.Option.{Option, none, some}
use Rattle.quotients.specs.Steps.{ceil_as_u32, quotient}
use Rattle.score_state.specs.Points.{hits, perfect_weight, standard, total_hits as six_hits}
use Rattle.score_state.specs.Given.{or, missing, given_hits, given_points}
use Rattle.score_state.specs.declared.HitResults.{HitResults}
use Rattle.inspect.specs.Inspect.{Inspect, shortened, total_hits, misses, remain}
use Rattle.closest_laws.specs.Loops.{each}
use Rattle.closest_f64.specs.Rust.{Args, options, weighting, x_values, n200_values, at_n200, count, min_space_needed, n320_values, n300_values, result_at, args_of}

-- ---- a computed number: its line and its exact value
pub data Step : Type 0 where
  u32 : ℕ → ℤ → Step
  i64 : ℕ → ℤ → Step

-- it lies within its type
unfoldable pub fits : Step → Bool
fits (u32 line (pos n)) = ltb n (2 ^ 32)
fits (u32 line (negsuc n)) = false
fits (i64 line (pos n)) = ltb n (2 ^ 63)
fits (i64 line (negsuc n)) = ltb n (2 ^ 63)

-- where a build with overflow checks stops, if it does
unfoldable pub first_over : List Step → Option Step
first_over [] = none
first_over (s ∷ ss) = cond (fits s) (first_over ss) (some s)

-- `a + x + ..`, and `.sum()`, which is from 0
unfoldable pub sums : ℕ → ℕ → List ℕ → List Step
sums line a [] = []
sums line a (x ∷ xs) = u32 line (pos (a + x)) ∷ sums line (a + x) xs

-- `a - x - ..`
unfoldable pub differences : ℕ → ℕ → List ℕ → List Step
differences line a [] = []
differences line a (x ∷ xs) = u32 line (pos a -ℤ pos x) ∷ differences line (a - x) xs

-- the given counts, each times its weight and added to those before
unfoldable pub weighted : ℕ → ℕ → List ℕ → List (Option ℕ) → List Step
weighted line a [] gs = []
weighted line a (w ∷ ws) [] = []
weighted line a (w ∷ ws) (none ∷ gs) = weighted line a ws gs
weighted line a (w ∷ ws) (some n ∷ gs) = u32 line (pos (w * n)) ∷ u32 line (pos (a + w * n)) ∷ weighted line (a + w * n) ws gs

-- `.flatten()`
unfoldable pub flatten : List (Option ℕ) → List ℕ
flatten [] = []
flatten (none ∷ gs) = flatten gs
flatten (some n ∷ gs) = n ∷ flatten gs

-- ---- optimize_two_missing

-- lines 268 to 270, at x
unfoldable pub steps_at_x : ℕ → ℤ → ℕ → ℕ → ℕ → List Step
steps_at_x remain_hits remain_score w1 w2 x =
    let y = remain_hits - x in
    let score = pos w1 *ℤ pos x +ℤ pos w2 *ℤ pos y in
    u32 268 (pos remain_hits -ℤ pos x)
    ∷ i64 269 (pos w1 *ℤ pos x) ∷ i64 269 (pos w2 *ℤ pos y) ∷ i64 269 score
    ∷ i64 270 (score -ℤ remain_score) ∷ i64 270 (pos (nat_abs (score -ℤ remain_score))) ∷ []

-- solve_two_vars at the two missing weights
unfoldable pub steps_solve_two_vars : ℕ → ℤ → List ℕ → List Step
steps_solve_two_vars remain_hits remain_score [] = []
steps_solve_two_vars remain_hits remain_score (w1 ∷ []) = []
steps_solve_two_vars remain_hits remain_score (w1 ∷ (w2 ∷ ws)) =
    cond (eqb w1 w2) (u32 252 (pos remain_hits -ℤ pos (remain_hits / 2)) ∷ [])
    (i64 255 (pos w2 *ℤ pos remain_hits) ∷ i64 255 (remain_score -ℤ pos w2 *ℤ pos remain_hits) ∷ i64 255 (pos w1 -ℤ pos w2)
    ∷ each (x_values remain_hits remain_score w1 w2) (steps_at_x remain_hits remain_score w1 w2))

-- line 240
abbrev pub overfull : ℕ → List (Option ℕ) → Step
overfull remain gs = u32 240 (pos remain -ℤ pos (given_hits gs))

unfoldable pub steps_optimize_two_missing : Args → List Step
steps_optimize_two_missing p =
    let provided_sum = given_points (weighting p) (options p) in
    let remain_hits = p.remain - given_hits (options p) in
    let remain_score = p.target_numerator -ℤ pos provided_sum in
    weighted 232 0 (weighting p) (options p)
    ++ (sums 238 0 (flatten (options p))
    ++ (overfull p.remain (options p)
    ∷ i64 241 remain_score
    ∷ steps_solve_two_vars remain_hits remain_score (missing (weighting p) (options p))))

-- ---- optimize_last_three

-- lines 533 to 542, at n200
unfoldable pub steps_at_n200 : ℕ → ℤ → ℕ → List Step
steps_at_n200 remain target_score n200 =
    let remaining = remain - n200 in
    let remaining_score = target_score -ℤ pos (40 * n200) in
    let n100 = (at_n200 remain target_score n200).result.n100 in
    let n50 = remaining - n100 in
    let actual_score = 40 * n200 + 20 * n100 + 10 * n50 in
    u32 534 (pos (40 * n200)) ∷ i64 534 remaining_score
    ∷ i64 537 (pos 10 *ℤ pos remaining) ∷ i64 537 (remaining_score -ℤ pos 10 *ℤ pos remaining)
    ∷ u32 541 (pos (40 * n200)) ∷ u32 541 (pos (20 * n100)) ∷ u32 541 (pos (40 * n200 + 20 * n100)) ∷ u32 541 (pos (10 * n50)) ∷ u32 541 (pos actual_score)
    ∷ i64 542 (pos actual_score -ℤ target_score) ∷ i64 542 (pos (nat_abs (pos actual_score -ℤ target_score))) ∷ []

-- one of the three is given, and n of them: w is its weight, v the weight that each hit left has; lines from the score's on
unfoldable pub one_given : ℕ → ℕ → ℕ → ℕ → ℕ → ℤ → List Step
one_given line w v n remain target_score =
    let remaining = remain - n in
    let remaining_score = target_score -ℤ pos (w * n) in
    u32 line (pos (w * n)) ∷ i64 line remaining_score
    ∷ i64 (line + 3) (pos v *ℤ pos remaining) ∷ i64 (line + 3) (remaining_score -ℤ pos v *ℤ pos remaining) ∷ []

unfoldable pub steps_optimize_last_three : Option ℕ → Option ℕ → Option ℕ → ℕ → ℤ → List Step
steps_optimize_last_three (some n2) (some n1) (some n5) remain target_score = []
steps_optimize_last_three (some n2) (some n1) none remain target_score = u32 482 (pos (n2 + n1)) ∷ []
steps_optimize_last_three (some n2) none (some n5) remain target_score = u32 483 (pos (n2 + n5)) ∷ []
steps_optimize_last_three none (some n1) (some n5) remain target_score = u32 484 (pos (n1 + n5)) ∷ []
steps_optimize_last_three (some n2) none none remain target_score = one_given 489 40 10 n2 remain target_score
steps_optimize_last_three none (some n1) none remain target_score = one_given 500 20 10 n1 remain target_score
steps_optimize_last_three none none (some n5) remain target_score = one_given 511 10 20 n5 remain target_score
steps_optimize_last_three none none none remain target_score =
    i64 527 (pos 20 *ℤ pos remain) ∷ i64 527 (target_score -ℤ pos 20 *ℤ pos remain)
    ∷ u32 530 (pos (ceil_as_u32 (quotient target_score (pos 40)) + 1))
    ∷ each (n200_values remain target_score) (steps_at_n200 remain target_score)

-- ---- score_state.rs, `accuracy` and its `total_hits`: lines 36, 49 to 53 and 55 of that file
unfoldable pub accuracy : HitResults → Bool → List Step
accuracy r classic =
    let five : List (Option ℕ) = some r.n320 ∷ some r.n300 ∷ some r.n200 ∷ some r.n100 ∷ some r.n50 ∷ [] in
    sums 36 r.n320 (r.n300 ∷ r.n200 ∷ r.n100 ∷ r.n50 ∷ r.misses ∷ [])
    ++ cond (eqb (six_hits r) 0) [] (weighted 49 0 (standard classic) five ++ (u32 55 (pos (perfect_weight classic * six_hits r)) ∷ []))

-- ---- optimize_three_plus_missing

-- lines 383 to 391
unfoldable pub steps_n320_values : Args → Option ℕ → List Step
steps_n320_values p (some n) = []
steps_n320_values p none =
    i64 383 (pos 10 *ℤ pos p.remain) ∷ i64 383 (p.target_numerator -ℤ pos 10 *ℤ pos p.remain)
    ∷ u32 383 (pos p.w320 -ℤ pos 10)
    ∷ u32 391 (pos (ceil_as_u32 (quotient p.target_numerator (pos p.w320)) + 1)) ∷ []

-- lines 413 to 423
unfoldable pub steps_n300_values : Args → ℕ → Option ℕ → List Step
steps_n300_values p new320 (some n) = []
steps_n300_values p new320 none =
    let remain_after_320 = p.remain - new320 in
    let target_after_320 = p.target_numerator -ℤ pos (p.w320 * new320) in
    i64 413 target_after_320
    ∷ i64 415 (pos 10 *ℤ pos remain_after_320) ∷ i64 415 (target_after_320 -ℤ pos 10 *ℤ pos remain_after_320)
    ∷ u32 423 (pos (ceil_as_u32 (quotient target_after_320 (pos 60)) + 1)) ∷ []

-- lines 440 to 456
unfoldable pub candidate : Args → ℕ → ℕ → List Step
candidate p new320 new300 =
    let score_300 = pos (p.w320 * new320) +ℤ pos (60 * new300) in
    let remain_after_300 = p.remain - (new320 + new300) in
    let target_after_300 = p.target_numerator -ℤ score_300 in
    (i64 440 target_after_300 ∷ steps_optimize_last_three p.n200 p.n100 p.n50 remain_after_300 target_after_300)
    ++ (accuracy (result_at p new320 new300) (eqb p.w320 60)
    ++ (u32 456 (pos (p.remain + p.misses)) ∷ u32 456 (pos (p.w320 * (p.remain + p.misses))) ∷ []))

-- lines 430 to 463, at new300
unfoldable pub steps_at_new300 : Args → ℕ → ℕ → List Step
steps_at_new300 p new320 new300 =
    u32 430 (pos (new320 + new300))
    ∷ u32 431 (pos (60 * new300)) ∷ i64 431 (pos (p.w320 * new320) +ℤ pos (60 * new300))
    ∷ u32 433 (pos p.remain -ℤ pos (new320 + new300))
    ∷ cond (ltb (p.remain - (new320 + new300)) (min_space_needed p)) [] (candidate p new320 new300)

-- lines 398 to 464, at new320
unfoldable pub steps_at_new320 : Args → ℕ → List Step
steps_at_new320 p new320 =
    u32 399 (pos (p.w320 * new320)) ∷ u32 400 (pos p.remain -ℤ pos new320)
    ∷ cond (ltb (p.remain - new320) (min_space_needed p)) []
    (steps_n300_values p new320 p.n300 ++ each (n300_values p new320 p.n300) (steps_at_new300 p new320))

unfoldable pub steps_optimize_three_plus_missing : Args → List Step
steps_optimize_three_plus_missing p =
    sums 374 (or p.n200 0) (or p.n100 0 ∷ or p.n50 0 ∷ [])
    ++ (steps_n320_values p p.n320 ++ each (n320_values p p.n320) (steps_at_new320 p))

-- ---- optimize_hitresults and generate_hitresults
unfoldable pub steps_optimize_hitresults : Args → List Step
steps_optimize_hitresults p = cond (eqb (count (options p)) 3) (steps_optimize_two_missing p) (steps_optimize_three_plus_missing p)

-- the differences of an arm that clamps, from its first `let` on: each takes away what stands above it (`used`)
unfoldable pub clamped : ℕ → ℕ → List ℕ → List ℕ → List Step
clamped line remain used [] = differences line remain used
clamped line remain used (g ∷ gs) = differences line remain used ++ clamped (suc line) remain (used ++ (min g (remain - hits used) ∷ [])) gs

unfoldable pub steps_match_given : Args → Option ℕ → Option ℕ → Option ℕ → Option ℕ → Option ℕ → List Step
steps_match_given p (some n320) (some n300) (some n200) (some n100) (some n50) = clamped 49 p.remain [] (n320 ∷ n300 ∷ n200 ∷ n100 ∷ [])
steps_match_given p (some n320) (some n300) (some n200) (some n100) none = clamped 67 p.remain [] (n320 ∷ n300 ∷ n200 ∷ n100 ∷ [])
steps_match_given p (some n320) (some n300) (some n200) none (some n50) = clamped 83 p.remain [] (n320 ∷ n300 ∷ n200 ∷ n50 ∷ [])
steps_match_given p (some n320) (some n300) none (some n100) (some n50) = clamped 99 p.remain [] (n320 ∷ n300 ∷ n100 ∷ n50 ∷ [])
steps_match_given p (some n320) none (some n200) (some n100) (some n50) = clamped 115 p.remain [] (n320 ∷ n200 ∷ n100 ∷ n50 ∷ [])
steps_match_given p none (some n300) (some n200) (some n100) (some n50) = clamped 131 p.remain [] (n300 ∷ n200 ∷ n100 ∷ n50 ∷ [])
steps_match_given p (some n320) (some n300) (some n200) none none = steps_optimize_hitresults p
steps_match_given p (some n320) (some n300) none (some n100) none = steps_optimize_hitresults p
steps_match_given p (some n320) (some n300) none none n50 = steps_optimize_hitresults p
steps_match_given p (some n320) none (some n200) (some n100) none = steps_optimize_hitresults p
steps_match_given p (some n320) none (some n200) none n50 = steps_optimize_hitresults p
steps_match_given p (some n320) none none n100 n50 = steps_optimize_hitresults p
steps_match_given p none (some n300) (some n200) (some n100) none = steps_optimize_hitresults p
steps_match_given p none (some n300) (some n200) none n50 = steps_optimize_hitresults p
steps_match_given p none (some n300) none n100 n50 = steps_optimize_hitresults p
steps_match_given p none none n200 n100 n50 = steps_optimize_hitresults p

-- line 36 of inspect.rs, `total_hits`, on a chart that has the hold notes reached (document 02, L2); `misses` (line 19) asks for it again
unfoldable pub total_hits_of : Inspect → List Step
total_hits_of i = cond i.classic [] (u32 36 (pos (shortened i.passed i.objects + shortened i.holds_passed i.holds)) ∷ [])

-- all of a call where acc is given
unfoldable pub computed : Inspect → Float → List Step
computed i acc =
    total_hits_of i
    ++ (u32 20 (pos (total_hits i) -ℤ pos (misses i))
    ∷ cond (eqb (remain i) 0) []
    (u32 37 (pos (perfect_weight i.classic * total_hits i)) ∷ steps_match_given (args_of i acc) i.n320 i.n300 i.n200 i.n100 i.n50))
