-- closest.rs, lines 13 to 553, in the Rust's own steps, names and order: i64 differences, f64 quotients with their floors, ceilings
-- and roundings, f64 distances from f64::MAX down. A definition stands below those it uses, so `generate_hitresults` comes last.
-- A u32 is a natural number, an i64 a whole number; a u32's `-` and `saturating_sub` are the natural `-`. That no sum, product or
-- difference leaves its type is specs/Sizes.antt's. Loops and running bests are lists and a fold, as in closest_laws.
use Rattle.std.specs.Prelude.{ℕ, suc, ◌+◌, ◌-◌, ◌*◌, ◌/◌, min, cond, List, [], ◌∷◌, ltb, eqb, ℤ, pos, nat_abs, ◌+ℤ◌, ◌-ℤ◌, ◌*ℤ◌, Float}
use Rattle.std.proofs.Math.Option.{Option, none, some}
use Rattle.std.specs.Float.{binary64}
use Rattle.std.specs.Float.Ieee.{sub, mul, lt, of_int, to_signed}
use Rattle.quotients.specs.Steps.{floor_u32, ceil_u32, ceil_as_u32, round_u32, round_ties_even, quotient, abs}
use Rattle.score_state.specs.Points.{perfect_weight}
use Rattle.score_state.specs.Given.{or, given_hits, given_points}
use Rattle.score_state.specs.Accuracy.{accuracy_of}
use Rattle.score_state.specs.declared.HitResults.{HitResults}
use Rattle.inspect.specs.Inspect.{Inspect, total_hits, misses, remain}
use Rattle.score_state.specs.Answer.{Answer, worked, refused}
use Rattle.closest_laws.specs.Loops.{range, each, Kept, scan}
use Rattle.closest_laws.specs.Closest.{Last, max64, six}

-- the nine arguments that the functions hand on (lines 174 to 182)
pub record Args : Type 0 where
  pub n320 : Option ℕ
  pub n300 : Option ℕ
  pub n200 : Option ℕ
  pub n100 : Option ℕ
  pub n50 : Option ℕ
  pub remain : ℕ
  pub target_numerator : ℤ
  pub w320 : ℕ
  pub misses : ℕ

-- `[n320, n300, n200, n100, n50]` and the weights beside them (line 230)
abbrev pub options : Args → List (Option ℕ)
options p = p.n320 ∷ p.n300 ∷ p.n200 ∷ p.n100 ∷ p.n50 ∷ []

abbrev pub weighting : Args → List ℕ
weighting p = p.w320 ∷ 60 ∷ 40 ∷ 20 ∷ 10 ∷ []

-- `i.abs() as f64`
abbrev pub abs_as_f64 : ℤ → Float
abs_as_f64 i = of_int binary64 (pos (nat_abs i))

-- ---- optimize_two_missing (lines 218 to 347)

-- solve_two_vars: what its loop runs through (lines 255 and 262 to 267)
unfoldable pub x_values : ℕ → ℤ → ℕ → ℕ → List ℕ
x_values remain_hits remain_score w1 w2 =
    let raw_x = quotient (remain_score -ℤ pos w2 *ℤ pos remain_hits) (pos w1 -ℤ pos w2) in
    0 ∷ min remain_hits (floor_u32 raw_x) ∷ min remain_hits (ceil_u32 raw_x) ∷ remain_hits ∷ []

-- the loop's body at x (lines 268 to 270)
unfoldable pub at_x : ℕ → ℤ → ℕ → ℕ → ℕ → Kept Float (ℕ × ℕ)
at_x remain_hits remain_score w1 w2 x =
    let y = remain_hits - x in
    let score = pos w1 *ℤ pos x +ℤ pos w2 *ℤ pos y in
    record { dist = abs_as_f64 (score -ℤ remain_score); result = (x, y) }

-- solve_two_vars (lines 244 to 280)
unfoldable pub solve_two_vars : ℕ → ℤ → ℕ → ℕ → ℕ × ℕ
solve_two_vars remain_hits remain_score w1 w2 =
    let half = remain_hits / 2 in
    let best : Kept Float (ℕ × ℕ) = record { dist = max64; result = (0, remain_hits) } in
    cond (eqb w1 w2) (half, remain_hits - half)
    (scan lt (each (x_values remain_hits remain_score w1 w2) (λ x. at_x remain_hits remain_score w1 w2 x ∷ [])) best).result

-- `result` before the arms (lines 283 to 290)
abbrev pub result_given : ℕ → Option ℕ → Option ℕ → Option ℕ → Option ℕ → Option ℕ → HitResults
result_given misses n320 n300 n200 n100 n50 =
    record { n320 = or n320 0; n300 = or n300 0; n200 = or n200 0; n100 = or n100 0; n50 = or n50 0; misses = misses }

-- the ten arms (lines 292 to 342), where `solve` is solve_two_vars; the last five clauses are the Rust's `unreachable!`
unfoldable pub match_two_missing : (ℕ → ℕ → ℕ × ℕ) → ℕ → ℕ → Option ℕ → Option ℕ → Option ℕ → Option ℕ → Option ℕ → HitResults
match_two_missing solve w320 misses none none n200 n100 n50 =
    let s = solve w320 60 in
    record { n320 = s.0; n300 = s.1; n200 = or n200 0; n100 = or n100 0; n50 = or n50 0; misses = misses }
match_two_missing solve w320 misses none (some n300) none n100 n50 =
    let s = solve w320 40 in
    record { n320 = s.0; n300 = n300; n200 = s.1; n100 = or n100 0; n50 = or n50 0; misses = misses }
match_two_missing solve w320 misses none (some n300) (some n200) none n50 =
    let s = solve w320 20 in
    record { n320 = s.0; n300 = n300; n200 = n200; n100 = s.1; n50 = or n50 0; misses = misses }
match_two_missing solve w320 misses none (some n300) (some n200) (some n100) none =
    let s = solve w320 10 in
    record { n320 = s.0; n300 = n300; n200 = n200; n100 = n100; n50 = s.1; misses = misses }
match_two_missing solve w320 misses (some n320) none none n100 n50 =
    let s = solve 60 40 in
    record { n320 = n320; n300 = s.0; n200 = s.1; n100 = or n100 0; n50 = or n50 0; misses = misses }
match_two_missing solve w320 misses (some n320) none (some n200) none n50 =
    let s = solve 60 20 in
    record { n320 = n320; n300 = s.0; n200 = n200; n100 = s.1; n50 = or n50 0; misses = misses }
match_two_missing solve w320 misses (some n320) none (some n200) (some n100) none =
    let s = solve 60 10 in
    record { n320 = n320; n300 = s.0; n200 = n200; n100 = n100; n50 = s.1; misses = misses }
match_two_missing solve w320 misses (some n320) (some n300) none none n50 =
    let s = solve 40 20 in
    record { n320 = n320; n300 = n300; n200 = s.0; n100 = s.1; n50 = or n50 0; misses = misses }
match_two_missing solve w320 misses (some n320) (some n300) none (some n100) none =
    let s = solve 40 10 in
    record { n320 = n320; n300 = n300; n200 = s.0; n100 = n100; n50 = s.1; misses = misses }
match_two_missing solve w320 misses (some n320) (some n300) (some n200) none none =
    let s = solve 20 10 in
    record { n320 = n320; n300 = n300; n200 = n200; n100 = s.0; n50 = s.1; misses = misses }
match_two_missing solve w320 misses none (some n300) (some n200) (some n100) (some n50) = result_given misses none (some n300) (some n200) (some n100) (some n50)
match_two_missing solve w320 misses (some n320) none (some n200) (some n100) (some n50) = result_given misses (some n320) none (some n200) (some n100) (some n50)
match_two_missing solve w320 misses (some n320) (some n300) none (some n100) (some n50) = result_given misses (some n320) (some n300) none (some n100) (some n50)
match_two_missing solve w320 misses (some n320) (some n300) (some n200) none (some n50) = result_given misses (some n320) (some n300) (some n200) none (some n50)
match_two_missing solve w320 misses (some n320) (some n300) (some n200) (some n100) n50 = result_given misses (some n320) (some n300) (some n200) (some n100) n50

-- check 12 where line 240's difference is negative
unfoldable pub optimize_two_missing : Args → Answer (List ℕ)
optimize_two_missing p =
    let provided_sum = given_points (weighting p) (options p) in
    let num_provided = given_hits (options p) in
    let remain_hits = p.remain - num_provided in
    let remain_score = p.target_numerator -ℤ pos provided_sum in
    let solve = solve_two_vars remain_hits remain_score in
    cond (ltb p.remain num_provided) (refused 12)
    (worked (six (match_two_missing solve p.w320 p.misses p.n320 p.n300 p.n200 p.n100 p.n50)))

-- ---- optimize_last_three (lines 470 to 553)

-- what the loop of all three runs through (lines 527 to 532)
unfoldable pub n200_values : ℕ → ℤ → List ℕ
n200_values remain target_score =
    let min200 = floor_u32 (quotient (target_score -ℤ pos 20 *ℤ pos remain) (pos 20)) in
    let max200 = min remain (ceil_as_u32 (quotient target_score (pos 40)) + 1) in
    range min200 max200

-- the loop's body at n200 (lines 533 to 542)
unfoldable pub at_n200 : ℕ → ℤ → ℕ → Kept Float Last
at_n200 remain target_score n200 =
    let remaining = remain - n200 in
    let remaining_score = target_score -ℤ pos (40 * n200) in
    let raw100 = quotient (remaining_score -ℤ pos 10 *ℤ pos remaining) (pos 10) in
    let n100 = min remaining (round_u32 raw100) in
    let n50 = remaining - n100 in
    let actual_score = 40 * n200 + 20 * n100 + 10 * n50 in
    record { dist = abs_as_f64 (pos actual_score -ℤ target_score); result = record { n200 = n200; n100 = n100; n50 = n50 } }

unfoldable pub optimize_last_three : Option ℕ → Option ℕ → Option ℕ → ℕ → ℤ → Last
optimize_last_three (some n2) (some n1) (some n5) remain target_score = record { n200 = n2; n100 = n1; n50 = n5 }
optimize_last_three (some n2) (some n1) none remain target_score = record { n200 = n2; n100 = n1; n50 = remain - (n2 + n1) }
optimize_last_three (some n2) none (some n5) remain target_score = record { n200 = n2; n100 = remain - (n2 + n5); n50 = n5 }
optimize_last_three none (some n1) (some n5) remain target_score = record { n200 = remain - (n1 + n5); n100 = n1; n50 = n5 }
optimize_last_three (some n2) none none remain target_score =
    let remaining = remain - n2 in
    let remaining_score = target_score -ℤ pos (40 * n2) in
    let raw100 = quotient (remaining_score -ℤ pos 10 *ℤ pos remaining) (pos 10) in
    let n100 = min remaining (round_u32 raw100) in
    let n50 = remaining - n100 in
    record { n200 = n2; n100 = n100; n50 = n50 }
optimize_last_three none (some n1) none remain target_score =
    let remaining = remain - n1 in
    let remaining_score = target_score -ℤ pos (20 * n1) in
    let raw200 = quotient (remaining_score -ℤ pos 10 *ℤ pos remaining) (pos 30) in
    let n200 = min remaining (round_u32 raw200) in
    let n50 = remaining - n200 in
    record { n200 = n200; n100 = n1; n50 = n50 }
optimize_last_three none none (some n5) remain target_score =
    let remaining = remain - n5 in
    let remaining_score = target_score -ℤ pos (10 * n5) in
    let raw200 = quotient (remaining_score -ℤ pos 20 *ℤ pos remaining) (pos 20) in
    let n200 = min remaining (round_u32 raw200) in
    let n100 = remaining - n200 in
    record { n200 = n200; n100 = n100; n50 = n5 }
optimize_last_three none none none remain target_score =
    let best : Kept Float Last = record { dist = max64; result = record { n200 = 0; n100 = 0; n50 = remain } } in
    (scan lt (each (n200_values remain target_score) (λ n200. at_n200 remain target_score n200 ∷ [])) best).result

-- ---- optimize_three_plus_missing (lines 351 to 467)

unfoldable pub min_space_needed : Args → ℕ
min_space_needed p = or p.n200 0 + or p.n100 0 + or p.n50 0

-- n320_values (lines 377 to 395), by n320
unfoldable pub n320_values : Args → Option ℕ → List ℕ
n320_values p (some n) = min n (p.remain - min_space_needed p) ∷ []
n320_values p none =
    let min_raw = quotient (p.target_numerator -ℤ pos 10 *ℤ pos p.remain) (pos (p.w320 - 10)) in
    let min_val = min (p.remain - min_space_needed p) (floor_u32 min_raw) in
    let max_raw = quotient p.target_numerator (pos p.w320) in
    let max_val = min (p.remain - min_space_needed p) (ceil_as_u32 max_raw + 1) in
    range min_val max_val

-- n300_values (lines 408 to 427), by new320 and n300
unfoldable pub n300_values : Args → ℕ → Option ℕ → List ℕ
n300_values p new320 (some n) = let remain_after_320 = p.remain - new320 in min n (remain_after_320 - min_space_needed p) ∷ []
n300_values p new320 none =
    let score_320 = pos (p.w320 * new320) in
    let remain_after_320 = p.remain - new320 in
    let target_after_320 = p.target_numerator -ℤ score_320 in
    let min_raw = quotient (target_after_320 -ℤ pos 10 *ℤ pos remain_after_320) (pos 50) in
    let min_val = min (remain_after_320 - min_space_needed p) (floor_u32 min_raw) in
    let max_raw = quotient target_after_320 (pos 60) in
    let max_val = min (remain_after_320 - min_space_needed p) (ceil_as_u32 max_raw + 1) in
    range min_val max_val

-- result (lines 429 to 453)
unfoldable pub result_at : Args → ℕ → ℕ → HitResults
result_at p new320 new300 =
    let used_300 = new320 + new300 in
    let score_300 = pos (p.w320 * new320) +ℤ pos (60 * new300) in
    let remain_after_300 = p.remain - used_300 in
    let target_after_300 = p.target_numerator -ℤ score_300 in
    let last = optimize_last_three p.n200 p.n100 p.n50 remain_after_300 target_after_300 in
    record { n320 = new320; n300 = new300; n200 = last.n200; n100 = last.n100; n50 = last.n50; misses = p.misses }

-- its dist (lines 455 to 457)
unfoldable pub dist_of : Args → HitResults → Float
dist_of p result =
    let actual_acc = accuracy_of result (eqb p.w320 60) in
    let target_acc = quotient p.target_numerator (pos (p.w320 * (p.remain + p.misses))) in
    abs (sub binary64 actual_acc target_acc)

-- the inner loop's body: a candidate, or none where it is skipped (lines 436 to 438)
unfoldable pub at_new300 : Args → ℕ → ℕ → List (Kept Float HitResults)
at_new300 p new320 new300 =
    let result = result_at p new320 new300 in
    cond (ltb (p.remain - (new320 + new300)) (min_space_needed p)) [] (record { dist = dist_of p result; result = result } ∷ [])

-- the outer loop's body (lines 397 to 464, skipped by 403 to 405)
unfoldable pub at_new320 : Args → ℕ → List (Kept Float HitResults)
at_new320 p new320 = cond (ltb (p.remain - new320) (min_space_needed p)) [] (each (n300_values p new320 p.n300) (at_new300 p new320))

-- best_dist and best_result before the loops (lines 362 to 371)
unfoldable pub best_result : Args → Kept Float HitResults
best_result p = record {
  dist = max64;
  result = record {
    n320 = or p.n320 0;
    n300 = or p.n300 0;
    n200 = or p.n200 0;
    n100 = or p.n100 0;
    n50 = or p.n50 p.remain;
    misses = p.misses;
  };
}

unfoldable pub optimize_three_plus_missing : Args → HitResults
optimize_three_plus_missing p = (scan lt (each (n320_values p p.n320) (at_new320 p)) (best_result p)).result

-- ---- optimize_hitresults (lines 173 to 214)

-- `.flatten().count()`
unfoldable pub count : List (Option ℕ) → ℕ
count [] = 0
count (none ∷ gs) = count gs
count (some n ∷ gs) = suc (count gs)

unfoldable pub optimize_hitresults : Args → Answer (List ℕ)
optimize_hitresults p =
    let num_provided = count (options p) in
    cond (eqb num_provided 3) (optimize_two_missing p) (worked (six (optimize_three_plus_missing p)))

-- ---- generate_hitresults (lines 13 to 160)

-- the arms (lines 40 to 159); the last ten clauses are the Rust's `_`
unfoldable pub match_given : Args → Option ℕ → Option ℕ → Option ℕ → Option ℕ → Option ℕ → Answer (List ℕ)
match_given p (some g320) (some g300) (some g200) (some g100) (some g50) =
    let n320 = min g320 p.remain in
    let n300 = min g300 (p.remain - n320) in
    let n200 = min g200 (p.remain - n320 - n300) in
    let n100 = min g100 (p.remain - n320 - n300 - n200) in
    let n50 = min g50 (p.remain - n320 - n300 - n200 - n100) in
    worked (n320 ∷ n300 ∷ n200 ∷ n100 ∷ n50 ∷ p.misses ∷ [])
match_given p (some g320) (some g300) (some g200) (some g100) none =
    let n320 = min g320 p.remain in
    let n300 = min g300 (p.remain - n320) in
    let n200 = min g200 (p.remain - n320 - n300) in
    let n100 = min g100 (p.remain - n320 - n300 - n200) in
    let n50 = p.remain - n320 - n300 - n200 - n100 in
    worked (n320 ∷ n300 ∷ n200 ∷ n100 ∷ n50 ∷ p.misses ∷ [])
match_given p (some g320) (some g300) (some g200) none (some g50) =
    let n320 = min g320 p.remain in
    let n300 = min g300 (p.remain - n320) in
    let n200 = min g200 (p.remain - n320 - n300) in
    let n50 = min g50 (p.remain - n320 - n300 - n200) in
    let n100 = p.remain - n320 - n300 - n200 - n50 in
    worked (n320 ∷ n300 ∷ n200 ∷ n100 ∷ n50 ∷ p.misses ∷ [])
match_given p (some g320) (some g300) none (some g100) (some g50) =
    let n320 = min g320 p.remain in
    let n300 = min g300 (p.remain - n320) in
    let n100 = min g100 (p.remain - n320 - n300) in
    let n50 = min g50 (p.remain - n320 - n300 - n100) in
    let n200 = p.remain - n320 - n300 - n100 - n50 in
    worked (n320 ∷ n300 ∷ n200 ∷ n100 ∷ n50 ∷ p.misses ∷ [])
match_given p (some g320) none (some g200) (some g100) (some g50) =
    let n320 = min g320 p.remain in
    let n200 = min g200 (p.remain - n320) in
    let n100 = min g100 (p.remain - n320 - n200) in
    let n50 = min g50 (p.remain - n320 - n200 - n100) in
    let n300 = p.remain - n320 - n200 - n100 - n50 in
    worked (n320 ∷ n300 ∷ n200 ∷ n100 ∷ n50 ∷ p.misses ∷ [])
match_given p none (some g300) (some g200) (some g100) (some g50) =
    let n300 = min g300 p.remain in
    let n200 = min g200 (p.remain - n300) in
    let n100 = min g100 (p.remain - n300 - n200) in
    let n50 = min g50 (p.remain - n300 - n200 - n100) in
    let n320 = p.remain - n300 - n200 - n100 - n50 in
    worked (n320 ∷ n300 ∷ n200 ∷ n100 ∷ n50 ∷ p.misses ∷ [])
match_given p (some g320) (some g300) (some g200) none none = optimize_hitresults p
match_given p (some g320) (some g300) none (some g100) none = optimize_hitresults p
match_given p (some g320) (some g300) none none n50 = optimize_hitresults p
match_given p (some g320) none (some g200) (some g100) none = optimize_hitresults p
match_given p (some g320) none (some g200) none n50 = optimize_hitresults p
match_given p (some g320) none none n100 n50 = optimize_hitresults p
match_given p none (some g300) (some g200) (some g100) none = optimize_hitresults p
match_given p none (some g300) (some g200) none n50 = optimize_hitresults p
match_given p none (some g300) none n100 n50 = optimize_hitresults p
match_given p none none n200 n100 n50 = optimize_hitresults p

-- `(acc * f64::from(w320 * total_hits)).round_ties_even() as i64` (line 37)
unfoldable pub target_numerator : Float → ℕ → ℕ → ℤ
target_numerator acc w320 total_hits = to_signed 63 (round_ties_even (mul binary64 acc (of_int binary64 (pos (w320 * total_hits)))))

unfoldable pub args_of : Inspect → Float → Args
args_of i acc =
    let w320 = perfect_weight i.classic in
    record {
      n320 = i.n320;
      n300 = i.n300;
      n200 = i.n200;
      n100 = i.n100;
      n50 = i.n50;
      remain = remain i;
      target_numerator = target_numerator acc w320 (total_hits i);
      w320 = w320;
      misses = misses i;
    }

-- `generate_hitresults` where acc is given
unfoldable pub closest_at_f64 : Inspect → Float → Answer (List ℕ)
closest_at_f64 i acc =
    cond (eqb (remain i) 0) (worked (0 ∷ 0 ∷ 0 ∷ 0 ∷ 0 ∷ misses i ∷ []))
    (match_given (args_of i acc) i.n320 i.n300 i.n200 i.n100 i.n50)
