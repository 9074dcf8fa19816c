-- The numbers that each function of closest.rs computes lie within their types, given small arguments; of optimize_two_missing those
-- up to line 240 always, and the others where the given counts leave what is subtracted there. Assumes nothing.
use Prim.Native.Nat.{ℕ, ◌+◌, ◌-◌, ◌*◌, ◌/◌, ◌^◌, ◌≤◌, ◌<◌, min}
use mathlib.Core.Path.{◌≡◌, refl, ◌∙◌}
use mathlib.Core.Bool.{Bool, true, false, cond}
use mathlib.Core.List.Memᴰ
use mathlib.Core.List.{List, [], ◌∷◌, Memᴰ}
use mathlib.Core.Option.{Option, none, some}
use native.Mathlib.Nat.{le_refl, le_trans, le_of_eq, mul-le-mul, sub-le, div-le_self}
use native.Mathlib.Omega.{arith}
use lib.Dec.{ltb, eqb, lit<, lit≤}
use lib.IntN.{ℤ, pos, negsuc, nat_abs, ◌-ℤ◌}
use lib.Ieee.{Float, lt}
use Rattle.quotients.specs.Steps.{floor_u32, ceil_u32, ceil_as_u32, round_u32, quotient, or_zero}
use Rattle.quotients.proofs.Sites.{site}
use Rattle.quotients.proofs.Sides.{up_le}
use Rattle.score_state.specs.Points.{hits, perfect_weight, standard}
use Rattle.score_state.specs.Given.{or, missing, given_hits, given_points}
use Rattle.score_state.specs.declared.HitResults.{HitResults}
use Rattle.score_state.proofs.Caps.{perfect_within}
use Rattle.inspect.specs.Inspect.{misses, remain}
use Rattle.closest_laws.specs.Loops.{range, each, Kept, offer, scan}
use Rattle.closest_laws.specs.Closest.{Last}
use Rattle.closest_laws.proofs.Scan.{mem-range}
use Rattle.closest_f64.specs.Rust.{Args, options, weighting, x_values, n200_values, at_n200, optimize_last_three, min_space_needed, n320_values, n300_values, result_at, target_numerator}
use Rattle.closest_f64.specs.Sizes.{Step, i64, first_over, sums, weighted, flatten, steps_at_x, steps_solve_two_vars, overfull, steps_optimize_two_missing, steps_at_n200, one_given, steps_optimize_last_three, accuracy, steps_n320_values, steps_n300_values, candidate, steps_at_new300, steps_at_new320, steps_optimize_three_plus_missing}
use Rattle.closest_f64.proofs.Signed.{difference_le}
use Rattle.closest_f64.proofs.Same.{Under, missing-under, tries, tries_le}
use Rattle.closest_f64.proofs.Fit.{Fit, u32-is, u32_minus, i64-is, fit_append, fit_each, fit_cond, past, stops, sums_fit, flatten-hits, weighted_fit}

-- ---- a weight times hits
weigh : (w x : ℕ) → w ≤ 61 → x ≤ 200_000 → w * x ≤ 12_200_000
weigh w x h k = mul-le-mul h k

-- ---- optimize_two_missing
at_x : (h : ℕ) (s : ℤ) (w1 w2 x : ℕ) → w1 ≤ 61 → w2 ≤ 61 → h ≤ 200_000 → nat_abs s ≤ 1_000_000_000 → x ≤ h → Fit (steps_at_x h s w1 w2 x)
unfolding steps_at_x
at_x h s w1 w2 x l1 l2 few small l =
    let y = h - x in
    let a : w1 * x ≤ 12_200_000 = weigh w1 x l1 (le_trans l few) in
    let b : w2 * y ≤ 12_200_000 = weigh w2 y l2 (le_trans (sub-le h x) few) in
    let d : nat_abs (pos (w1 * x + w2 * y) -ℤ s) ≤ w1 * x + w2 * y + nat_abs s = difference_le (pos (w1 * x + w2 * y)) s in
    (u32_minus h x l (omega arith), (i64-is (omega arith), (i64-is (omega arith), (i64-is (omega arith), (i64-is (omega arith), (i64-is (omega arith), tt))))))

solve_fit : (h : ℕ) (s : ℤ) (ws : List ℕ) → Under 61 ws → h ≤ 200_000 → nat_abs s ≤ 1_000_000_000 → Fit (steps_solve_two_vars h s ws)
unfolding steps_solve_two_vars x_values
solve_fit h s [] u few small = tt
solve_fit h s (w1 ∷ []) u few small = tt
solve_fit h s (w1 ∷ (w2 ∷ ws)) u few small =
    let raw = quotient (s -ℤ pos (w2 * h)) (pos w1 -ℤ pos w2) in
    let l2 : w2 ≤ 61 = le_trans u.1.0 u.0 in
    let a : w2 * h ≤ 12_200_000 = weigh w2 h l2 few in
    let d : nat_abs (s -ℤ pos (w2 * h)) ≤ nat_abs s + w2 * h = difference_le s (pos (w2 * h)) in
    let e : nat_abs (pos w1 -ℤ pos w2) ≤ w1 + w2 = difference_le (pos w1) (pos w2) in
    let l1 = u.0 in
    fit_cond (eqb w1 w2) _ _ (u32_minus h (h / 2) (div-le_self h 2) (omega arith), tt) (
      i64-is (omega arith),
      (
        i64-is (omega arith),
        (
          i64-is (omega arith),
          fit_each (tries h (floor_u32 raw) (ceil_u32 raw)) (steps_at_x h s w1 w2) (λ x m. at_x h s w1 w2 x l1 l2 few small (tries_le h (floor_u32 raw) (ceil_u32 raw) x m)),
        ),
      ),
    )

-- ---- optimize_last_three
-- `.ceil() as u32` of a quotient is no more than the dividend
or_zero-le : (i : ℤ) → or_zero i ≤ nat_abs i
unfolding or_zero
or_zero-le (pos n) = le_refl n
or_zero-le (negsuc n) = omega arith

ceil-le : (i : ℤ) (b : ℕ) → 0 < b → b ≤ 61 → nat_abs i ≤ 2 ^ 31 → ceil_as_u32 (quotient i (pos b)) ≤ nat_abs i
ceil-le i b B l h =
    le_trans (le_of_eq (site b B (le_trans l (lit≤ tt)) i (le_trans (or_zero-le i) h)).2) (le_trans (up_le (or_zero i) b B) (or_zero-le i))

at-n200 : (r : ℕ) (s : ℤ) (n : ℕ) → r ≤ 200_000 → nat_abs s ≤ 1_000_000_000 → n ≤ r → Fit (steps_at_n200 r s n)
unfolding steps_at_n200 at_n200
at-n200 r s n few small l =
    let k = r - n in
    let c = min k (round_u32 (quotient (s -ℤ pos (40 * n) -ℤ pos (10 * k)) (pos 10))) in
    let score = 40 * n + 20 * c + 10 * (k - c) in
    let a : nat_abs (s -ℤ pos (40 * n)) ≤ nat_abs s + 40 * n = difference_le s (pos (40 * n)) in
    let b : nat_abs (s -ℤ pos (40 * n) -ℤ pos (10 * k)) ≤ nat_abs (s -ℤ pos (40 * n)) + 10 * k = difference_le (s -ℤ pos (40 * n)) (pos (10 * k)) in
    let d : nat_abs (pos score -ℤ s) ≤ score + nat_abs s = difference_le (pos score) s in (
      u32-is (omega arith),
      (
        i64-is (omega arith),
        (
          i64-is (omega arith),
          (
            i64-is (omega arith),
            (
              u32-is (omega arith),
              (
                u32-is (omega arith),
                (
                  u32-is (omega arith),
                  (
                    u32-is (omega arith),
                    (
                      u32-is (omega arith),
                      (i64-is (omega arith), (i64-is (omega arith), tt)),
                    ),
                  ),
                ),
              ),
            ),
          ),
        ),
      ),
    )

one-given : (line w v n r : ℕ) (s : ℤ) → w ≤ 61 → v ≤ 61 → n ≤ 1_000_000 → r ≤ 200_000 → nat_abs s ≤ 1_000_000_000 → Fit (one_given line w v n r s)
unfolding one_given
one-given line w v n r s W U N few small =
    let k = r - n in
    let x : w * n ≤ 61_000_000 = mul-le-mul W N in
    let y : v * k ≤ 12_200_000 = weigh v k U (le_trans (sub-le r n) few) in
    let a : nat_abs (s -ℤ pos (w * n)) ≤ nat_abs s + w * n = difference_le s (pos (w * n)) in
    let b : nat_abs (s -ℤ pos (w * n) -ℤ pos (v * k)) ≤ nat_abs (s -ℤ pos (w * n)) + v * k = difference_le (s -ℤ pos (w * n)) (pos (v * k)) in
    (u32-is (omega arith), (i64-is (omega arith), (i64-is (omega arith), (i64-is (omega arith), tt))))

last_fit : (g2 g1 g5 : Option ℕ) (r : ℕ) (s : ℤ) → or g2 0 ≤ 1_000_000 → or g1 0 ≤ 1_000_000 → or g5 0 ≤ 1_000_000
    → r ≤ 200_000 → nat_abs s ≤ 1_000_000_000 → Fit (steps_optimize_last_three g2 g1 g5 r s)
unfolding steps_optimize_last_three n200_values or
last_fit (some n2) (some n1) (some n5) r s a b c few small = tt
last_fit (some n2) (some n1) none r s a b c few small = (u32-is (omega arith), tt)
last_fit (some n2) none (some n5) r s a b c few small = (u32-is (omega arith), tt)
last_fit none (some n1) (some n5) r s a b c few small = (u32-is (omega arith), tt)
last_fit (some n2) none none r s a b c few small = one-given 489 40 10 n2 r s (lit≤ tt) (lit≤ tt) a few small
last_fit none (some n1) none r s a b c few small = one-given 500 20 10 n1 r s (lit≤ tt) (lit≤ tt) b few small
last_fit none none (some n5) r s a b c few small = one-given 511 10 20 n5 r s (lit≤ tt) (lit≤ tt) c few small
last_fit none none none r s a b c few small =
    let lo = floor_u32 (quotient (s -ℤ pos (20 * r)) (pos 20)) in
    let hi = ceil_as_u32 (quotient s (pos 40)) in
    let top : hi ≤ nat_abs s = ceil-le s 40 (lit< tt) (lit≤ tt) (le_trans small (lit≤ tt)) in
    let d : nat_abs (s -ℤ pos (20 * r)) ≤ nat_abs s + 20 * r = difference_le s (pos (20 * r)) in (
      i64-is (omega arith),
      (
        i64-is (omega arith),
        (
          u32-is (omega arith),
          fit_each (range lo (min r (hi + 1))) (steps_at_n200 r s) (λ n m. at-n200 r s n few small (le_trans (mem-range lo (min r (hi + 1)) n m).1 (omega arith))),
        ),
      ),
    )

-- ---- what the domain leaves of the arguments
pub record Within (p : Args) : Type 0 where
  pub heavy : 60 ≤ p.w320
  pub top : p.w320 ≤ 61
  pub aim : nat_abs p.target_numerator ≤ 12_200_000
  pub few : p.remain + p.misses ≤ 200_000
  pub n320 : or p.n320 0 ≤ 1_000_000
  pub n300 : or p.n300 0 ≤ 1_000_000
  pub n200 : or p.n200 0 ≤ 1_000_000
  pub n100 : or p.n100 0 ≤ 1_000_000
  pub n50 : or p.n50 0 ≤ 1_000_000

-- ---- optimize_two_missing, up to line 240 and from there on
module _ (p : Args) (k : Within p) where
  abbrev given : ℕ
  given = given_hits (options p)

  abbrev earned : ℕ
  earned = given_points (weighting p) (options p)

  abbrev above : List Step
  above = weighted 232 0 (weighting p) (options p)

  abbrev counts : List Step
  counts = sums 238 0 (flatten (options p))

  earned_le : earned ≤ 191_000_000
  unfolding given_points
  earned_le =
      let a : p.w320 * or p.n320 0 ≤ 61_000_000 = mul-le-mul k.top k.n320 in
      omega (arith, k.n300, k.n200, k.n100, k.n50)

  given-le : given ≤ 5_000_000
  unfolding given_hits
  given-le = omega (arith, k.n320, k.n300, k.n200, k.n100, k.n50)

  above_fit : Fit above
  above_fit = weighted_fit 232 0 (weighting p) (options p) (omega (arith, earned_le))

  counts_fit : Fit counts
  counts_fit = sums_fit 238 0 (flatten (options p)) (omega (arith, flatten-hits (options p), given-le))

  pub two_over : p.remain < given → first_over (steps_optimize_two_missing p) ≡ some (overfull p.remain (options p))
  unfolding steps_optimize_two_missing
  two_over l = past above _ above_fit ∙ past counts _ counts_fit ∙ stops 240 p.remain given _ l

  pub two_fit : given ≤ p.remain → Fit (steps_optimize_two_missing p)
  unfolding steps_optimize_two_missing
  two_fit l =
      let s = p.target_numerator -ℤ pos earned in
      let h = p.remain - given in
      let d : nat_abs s ≤ nat_abs p.target_numerator + earned = difference_le p.target_numerator (pos earned) in
      let small : nat_abs s ≤ 1_000_000_000 = omega (arith, k.aim, earned_le) in
      let u : Under 61 (weighting p) = (k.top, (k.heavy, (lit≤ tt, (lit≤ tt, (lit≤ tt, tt))))) in
      fit_append above _ above_fit (fit_append counts _ counts_fit (
        u32_minus p.remain given l (omega (arith, k.few)),
        (
          i64-is (omega arith),
          solve_fit h s (missing (weighting p) (options p)) (missing-under 61 (weighting p) (options p) u) (omega (arith, k.few)) small,
        ),
      ))

-- ---- accuracy of six counts up to 1,000,000 each
pub record Million (r : HitResults) : Type 0 where
  pub n320 : r.n320 ≤ 1_000_000
  pub n300 : r.n300 ≤ 1_000_000
  pub n200 : r.n200 ≤ 1_000_000
  pub n100 : r.n100 ≤ 1_000_000
  pub n50 : r.n50 ≤ 1_000_000
  pub misses : r.misses ≤ 1_000_000

accuracy_fit : (r : HitResults) (classic : Bool) → Million r → Fit (accuracy r classic)
unfolding accuracy hits given_points or
accuracy_fit r classic m =
    let w = perfect_weight classic in
    let five : List (Option ℕ) = some r.n320 ∷ some r.n300 ∷ some r.n200 ∷ some r.n100 ∷ some r.n50 ∷ [] in
    let all = r.n320 + (r.n300 + (r.n200 + (r.n100 + (r.n50 + 0)))) + r.misses in
    let a : all ≤ 6_000_000 = omega (arith, m.n320, m.n300, m.n200, m.n100, m.n50, m.misses) in
    let b : w * all ≤ 366_000_000 = mul-le-mul (perfect_within classic) a in
    let c : w * r.n320 ≤ 61_000_000 = mul-le-mul (perfect_within classic) m.n320 in
    fit_append (sums 36 r.n320 (r.n300 ∷ r.n200 ∷ r.n100 ∷ r.n50 ∷ r.misses ∷ [])) _
    (sums_fit 36 r.n320 (r.n300 ∷ r.n200 ∷ r.n100 ∷ r.n50 ∷ r.misses ∷ []) (omega arith))
    (fit_cond (eqb all 0) [] _ tt
    (fit_append (weighted 49 0 (standard classic) five) _
    (weighted_fit 49 0 (standard classic) five (omega (arith, m.n300, m.n200, m.n100, m.n50)))
    (u32-is (omega arith), tt)))

-- the last three are no more than 1,000,000 each
abbrev Thousands : Last → Type 0
Thousands l = (l.n200 ≤ 1_000_000) × (l.n100 ≤ 1_000_000) × (l.n50 ≤ 1_000_000)

scan-keeps : {A : Type 0} (P : A → Type 0) (xs : List ℕ) (f : ℕ → Kept Float A) (b : Kept Float A)
    → ((x : ℕ) → Memᴰ x xs → P (f x).result) → P b.result → P (scan lt (each xs (λ x. f x ∷ [])) b).result
unfolding scan each
scan-keeps P [] f b h k = k
scan-keeps P (x ∷ xs) f b h k = scan-keeps P xs f (offer lt (f x) b) (λ y m. h y (Memᴰ.tail m)) (unfold offer in pick (lt (f x).dist b.dist))
  where
    pick : (t : Bool) → P (cond t (f x) b).result
    pick true = h x (Memᴰ.head refl)
    pick false = k

last_small : (g2 g1 g5 : Option ℕ) (r : ℕ) (s : ℤ) → or g2 0 ≤ 1_000_000 → or g1 0 ≤ 1_000_000 → or g5 0 ≤ 1_000_000
    → r ≤ 200_000 → Thousands (optimize_last_three g2 g1 g5 r s)
unfolding optimize_last_three n200_values or
last_small (some n2) (some n1) (some n5) r s a b c few = (a, b, c)
last_small (some n2) (some n1) none r s a b c few = (a, b, omega arith)
last_small (some n2) none (some n5) r s a b c few = (a, omega arith, c)
last_small none (some n1) (some n5) r s a b c few = (omega arith, b, c)
last_small (some n2) none none r s a b c few = (a, omega arith, omega arith)
last_small none (some n1) none r s a b c few = (omega arith, b, omega arith)
last_small none none (some n5) r s a b c few = (omega arith, omega arith, c)
last_small none none none r s a b c few =
    let lo = floor_u32 (quotient (s -ℤ pos (20 * r)) (pos 20)) in
    let hi = min r (ceil_as_u32 (quotient s (pos 40)) + 1) in
    scan-keeps Thousands (range lo hi) (at_n200 r s) _
    (λ n m. let l : n ≤ hi = (mem-range lo hi n m).1 in unfold at_n200 in (omega arith, omega arith, omega arith))
    (omega arith, omega arith, omega arith)

-- ---- optimize_three_plus_missing
in_320 : (p : Args) (g : Option ℕ) (x : ℕ) → Memᴰ x (n320_values p g) → x ≤ p.remain
unfolding n320_values
in_320 p (some n) x (Memᴰ.head e) = omega arith
in_320 p (some n) x (Memᴰ.tail m) = absurd (Memᴰ.not-nil m)
in_320 p none x m =
    let room = p.remain - min_space_needed p in
    let lo = floor_u32 (quotient (p.target_numerator -ℤ pos (10 * p.remain)) (pos (p.w320 - 10))) in
    let hi = ceil_as_u32 (quotient p.target_numerator (pos p.w320)) in
    let h = mem-range (min room lo) (min room (hi + 1)) x m in
    omega arith

in_300 : (p : Args) (x : ℕ) (g : Option ℕ) (y : ℕ) → Memᴰ y (n300_values p x g) → y ≤ p.remain - x
unfolding n300_values
in_300 p x (some n) y (Memᴰ.head e) = omega arith
in_300 p x (some n) y (Memᴰ.tail m) = absurd (Memᴰ.not-nil m)
in_300 p x none y m =
    let left = p.remain - x in
    let room = left - min_space_needed p in
    let aim = p.target_numerator -ℤ pos (p.w320 * x) in
    let lo = floor_u32 (quotient (aim -ℤ pos (10 * left)) (pos 50)) in
    let hi = ceil_as_u32 (quotient aim (pos 60)) in
    let h = mem-range (min room lo) (min room (hi + 1)) y m in
    omega arith

module _ (p : Args) (k : Within p) where
  abbrev w : ℕ
  w = p.w320

  abbrev aim64 : ℤ
  aim64 = p.target_numerator

  320_fit : (g : Option ℕ) → Fit (steps_n320_values p g)
  unfolding steps_n320_values
  320_fit (some n) = tt
  320_fit none =
      let hi : ceil_as_u32 (quotient aim64 (pos w)) ≤ nat_abs aim64 = ceil-le aim64 w (omega (arith, k.heavy)) k.top (le_trans k.aim (lit≤ tt)) in
      let d : nat_abs (aim64 -ℤ pos (10 * p.remain)) ≤ nat_abs aim64 + 10 * p.remain = difference_le aim64 (pos (10 * p.remain)) in (
        i64-is (omega (arith, k.few)),
        (
          i64-is (omega (arith, k.few, k.aim)),
          (
            u32_minus w 10 (omega (arith, k.heavy)) (omega (arith, k.top)),
            (u32-is (omega (arith, k.aim)), tt),
          ),
        ),
      )

  module _ (x : ℕ) (X : x ≤ p.remain) where
    aim-le : nat_abs (aim64 -ℤ pos (w * x)) ≤ 24_400_000
    aim-le =
        let a : w * x ≤ 12_200_000 = weigh w x k.top (omega (arith, k.few)) in
        omega (arith, k.aim, difference_le aim64 (pos (w * x)))

    300_fit : (g : Option ℕ) → Fit (steps_n300_values p x g)
    unfolding steps_n300_values
    300_fit (some n) = tt
    300_fit none =
        let left = p.remain - x in
        let aim = aim64 -ℤ pos (w * x) in
        let hi : ceil_as_u32 (quotient aim (pos 60)) ≤ nat_abs aim = ceil-le aim 60 (lit< tt) (lit≤ tt) (le_trans aim-le (lit≤ tt)) in
        let d : nat_abs (aim -ℤ pos (10 * left)) ≤ nat_abs aim + 10 * left = difference_le aim (pos (10 * left)) in
        (i64-is (omega (arith, aim-le)), (i64-is (omega (arith, k.few)), (i64-is (omega (arith, k.few, aim-le)), (u32-is (omega (arith, aim-le)), tt))))

    module _ (y : ℕ) (Y : y ≤ p.remain - x) where
      score_le : w * x + 60 * y ≤ 24_200_000
      score_le =
          let a : w * x ≤ 12_200_000 = weigh w x k.top (omega (arith, k.few)) in
          omega (arith, k.few)

      left_le : nat_abs (aim64 -ℤ pos (w * x + 60 * y)) ≤ 1_000_000_000
      left_le = omega (arith, k.aim, score_le, difference_le aim64 (pos (w * x + 60 * y)))

      result-small : Million (result_at p x y)
      unfolding result_at
      result-small =
          let l = last_small p.n200 p.n100 p.n50 (p.remain - (x + y)) (aim64 -ℤ pos (w * x + 60 * y)) k.n200 k.n100 k.n50 (omega (arith, k.few)) in
          record { n320 = omega (arith, k.few); n300 = omega (arith, k.few); n200 = l.0; n100 = l.1; n50 = l.2; misses = omega (arith, k.few) }

      candidate_fit : Fit (candidate p x y)
      unfolding candidate
      candidate_fit =
          let r = p.remain - (x + y) in
          let s = aim64 -ℤ pos (w * x + 60 * y) in
          let a : w * (p.remain + p.misses) ≤ 12_200_000 = weigh w (p.remain + p.misses) k.top k.few in
          fit_append (i64 440 s ∷ steps_optimize_last_three p.n200 p.n100 p.n50 r s) _
          (i64-is (omega (arith, left_le)), last_fit p.n200 p.n100 p.n50 r s k.n200 k.n100 k.n50 (omega (arith, k.few)) left_le)
          (fit_append (accuracy (result_at p x y) (eqb w 60)) _ (accuracy_fit (result_at p x y) (eqb w 60) result-small)
          (u32-is (omega (arith, k.few)), (u32-is (omega arith), tt)))

      new300_fit : Fit (steps_at_new300 p x y)
      unfolding steps_at_new300
      new300_fit = (
        u32-is (omega (arith, k.few)),
        (
          u32-is (omega (arith, k.few)),
          (
            i64-is (omega (arith, score_le)),
            (
              u32_minus p.remain (x + y) (omega arith) (omega (arith, k.few)),
              fit_cond (ltb (p.remain - (x + y)) (min_space_needed p)) [] (candidate p x y) tt candidate_fit,
            ),
          ),
        ),
      )

    new320_fit : Fit (steps_at_new320 p x)
    unfolding steps_at_new320
    new320_fit =
        let a : w * x ≤ 12_200_000 = weigh w x k.top (omega (arith, k.few)) in (
          u32-is (omega arith),
          (
            u32_minus p.remain x X (omega (arith, k.few)),
            fit_cond (ltb (p.remain - x) (min_space_needed p)) [] _ tt
                (fit_append (steps_n300_values p x p.n300) _ (300_fit p.n300)
                (fit_each (n300_values p x p.n300) (steps_at_new300 p x) (λ y m. new300_fit y (in_300 p x p.n300 y m)))),
          ),
        )

  pub three_fit : Fit (steps_optimize_three_plus_missing p)
  unfolding steps_optimize_three_plus_missing hits
  three_fit =
      let n2 = or p.n200 0 in
      let rest = or p.n100 0 ∷ or p.n50 0 ∷ [] in
      fit_append (sums 374 n2 rest) _ (sums_fit 374 n2 rest (omega (arith, k.n200, k.n100, k.n50)))
      (fit_append (steps_n320_values p p.n320) _ (320_fit p.n320)
      (fit_each (n320_values p p.n320) (steps_at_new320 p) (λ x m. new320_fit x (in_320 p p.n320 x m))))
