-- Closest in the Rust's f64 and i64 steps is closest_laws' Closest. Assumes nothing.
use Prim.Native.Nat.{ℕ, zero, suc, ◌+◌, ◌-◌, ◌*◌, ◌/◌, ◌^◌, ◌≤◌, ◌<◌, min}
use mathlib.Core.Path.{◌≡◌, refl, sym, ap, ◌∙◌, subst}
use mathlib.Core.Bool.{Bool, true, false, cond}
use mathlib.Core.List.Memᴰ
use mathlib.Core.List.{List, [], ◌∷◌, Memᴰ}
use mathlib.Core.Option.{Option, none, some}
use native.Mathlib.Nat.{le_trans, le_of_lt, le_of_eq, mul-le-mul, mul-le-mul_left, sub-le}
use native.Mathlib.Omega.{arith}
use borrow.Author.Tests.{eqb-false, eq-eqb, ne_eqb}
use lib.Dec.{T, eqb, ltb, lit<, lit≤}
use lib.IntN.{ℤ, pos, ◌-ℤ◌}
use lib.ListN.{length}
use lib.Ieee.{Float, binary64, lt, of_int}
use lib.Ieee.Nearest.{closest}
use Rattle.rounding.specs.Round.{zero64}
use Rattle.rounding.specs.Distance.{ratio}
use Rattle.rounding.specs.Quotient.{rounded_up}
use Rattle.quotients.specs.Steps.{floor_u32, ceil_u32, ceil_as_u32, round_u32, quotient, or_zero}
use Rattle.quotients.proofs.Sites.{site}
use Rattle.quotients.proofs.Abs.{abs-sub, Counted, counted-ratio, counted_zero}
use Rattle.score_state.specs.Points.{total_hits}
use Rattle.units.specs.Gap.{gap}
use Rattle.score_state.specs.Given.{or, missing, given_hits, given_points, fill}
use Rattle.score_state.specs.Accuracy.{accuracy_of}
use Rattle.score_state.specs.declared.HitResults.{HitResults}
use Rattle.score_state.specs.Answer.{worked, refused}
use Rattle.closest_laws.specs.Loops.{range, each, Kept, scan, nearer}
use Rattle.closest_laws.specs.Closest.{Play, Last, max64, provided, weights, result_of, split_at, solve_two, solve, plain_optimize_two_missing, last_at, plain_optimize_last_three, space, values, values320, values300, plain_result_at, try_at, inner, outer, start, search, plain_optimize_three_plus_missing, clamp, clamp_and_fill, six, by_missing}
use Rattle.closest_laws.proofs.Scan.{mem-range}
use Rattle.closest_f64.specs.Rust.{Args, abs_as_f64, x_values, at_x, solve_two_vars, match_two_missing, optimize_two_missing, n200_values, at_n200, optimize_last_three, min_space_needed, n320_values, n300_values, result_at, dist_of, at_new300, at_new320, best_result, optimize_three_plus_missing, count, optimize_hitresults, match_given}
use Rattle.closest_f64.proofs.Signed.{sub-le as pos-sub, one_less, two_less, three_less, apart}
use Rattle.closest_f64.proofs.Scans.{Try, scan-same, each_same}

-- ---- the site laws, at an i64 whose part from 0 up is known
floor-at : (i : ℤ) (a b : ℕ) → or_zero i ≡ a → a < 2 ^ 31 → 0 < b → b ≤ 61 → floor_u32 (quotient i (pos b)) ≡ a / b
floor-at i a b e h B l = (site b B (le_trans l (lit≤ tt)) i (le_trans (le_of_eq e) (le_of_lt h))).0 ∙ ap (λ (x : ℕ). x / b) e

ceil-at : (i : ℤ) (a b : ℕ) → or_zero i ≡ a → a < 2 ^ 31 → 0 < b → b ≤ 61 → ceil_u32 (quotient i (pos b)) ≡ rounded_up a b
ceil-at i a b e h B l = (site b B (le_trans l (lit≤ tt)) i (le_trans (le_of_eq e) (le_of_lt h))).1 ∙ ap (λ (x : ℕ). rounded_up x b) e

ceil_as_at : (i : ℤ) (a b : ℕ) → or_zero i ≡ a → a < 2 ^ 31 → 0 < b → b ≤ 61 → ceil_as_u32 (quotient i (pos b)) ≡ rounded_up a b
ceil_as_at i a b e h B l = (site b B (le_trans l (lit≤ tt)) i (le_trans (le_of_eq e) (le_of_lt h))).2 ∙ ap (λ (x : ℕ). rounded_up x b) e

round_at : (i : ℤ) (a b : ℕ) → or_zero i ≡ a → a < 2 ^ 31 → 0 < b → b ≤ 61 → round_u32 (quotient i (pos b)) ≡ closest a b
round_at i a b e h B l = (site b B (le_trans l (lit≤ tt)) i (le_trans (le_of_eq e) (le_of_lt h))).3 ∙ ap (λ (x : ℕ). closest x b) e

-- a difference from T is below 2 ^ 31 with T
less : (T a : ℕ) → T < 2 ^ 31 → T - a < 2 ^ 31
less T a h = omega arith

-- ---- optimize_two_missing
gap-le : (a b : ℕ) → a ≤ 2 ^ 52 → b ≤ 2 ^ 52 → gap a b ≤ 2 ^ 53
unfolding gap
gap-le a b h k = omega arith

-- what solve_two_vars tries
abbrev pub tries : ℕ → ℕ → ℕ → List ℕ
tries h lo hi = 0 ∷ min h lo ∷ min h hi ∷ h ∷ []

pub tries_le : (h lo hi x : ℕ) → Memᴰ x (tries h lo hi) → x ≤ h
tries_le h lo hi x (Memᴰ.head e) = omega arith
tries_le h lo hi x (Memᴰ.tail (Memᴰ.head e)) = omega arith
tries_le h lo hi x (Memᴰ.tail (Memᴰ.tail (Memᴰ.head e))) = omega arith
tries_le h lo hi x (Memᴰ.tail (Memᴰ.tail (Memᴰ.tail (Memᴰ.head e)))) = omega arith
tries_le h lo hi x (Memᴰ.tail (Memᴰ.tail (Memᴰ.tail (Memᴰ.tail m)))) = absurd (Memᴰ.not-nil m)

-- `(x, y)` as a list
abbrev pair_list : ℕ × ℕ → List ℕ
pair_list s = s.0 ∷ s.1 ∷ []

module _ (w1 w2 T h P : ℕ) (falls : w2 ≤ w1) (light : w1 ≤ 61) (aim : T < 2 ^ 31) (few : h ≤ 2 ^ 31) (earned : P ≤ 2 ^ 40) where
  abbrev i64 : ℤ
  i64 = pos T -ℤ pos P

  split_score : (x : ℕ) → x ≤ h → P + (w1 * x + w2 * (h - x)) ≤ 2 ^ 52
  split_score x l =
      let a : w1 * x ≤ 61 * h = mul-le-mul light l in
      let b : w2 * (h - x) ≤ 61 * h = mul-le-mul (le_trans falls light) (sub-le h x) in
      omega arith

  split_try : (x : ℕ) → x ≤ h → Try pair_list (split_at w1 w2 T h P x) (at_x h i64 w1 w2 x)
  unfolding split_at at_x
  split_try x l = record {
    at = gap (P + (w1 * x + w2 * (h - x))) T;
    whole = refl;
    float = ap (λ (d : ℕ). of_int binary64 (pos d)) (apart (w1 * x + w2 * (h - x)) T P);
    small = gap-le (P + (w1 * x + w2 * (h - x))) T (split_score x l) (le_trans (le_of_lt aim) (lit≤ tt));
    result = refl;
  }

  abbrev over : ℕ
  over = T - (P + w2 * h)

  found_r : ℕ → ℕ → ℕ × ℕ
  found_r lo hi = (scan lt (each (tries h lo hi) (λ x. at_x h i64 w1 w2 x ∷ [])) (record { dist = max64; result = (0, h) })).result

  found_n : ℕ → ℕ → List ℕ
  found_n lo hi = (scan nearer (each (tries h lo hi) (λ x. split_at w1 w2 T h P x ∷ [])) (record { dist = none; result = 0 ∷ h ∷ [] })).result

  found : (lo hi : ℕ) → pair_list (found_r lo hi) ≡ found_n lo hi
  unfolding found_r found_n
  found lo hi =
      scan-same pair_list (tries h lo hi) (λ x. split_at w1 w2 T h P x) (λ x. at_x h i64 w1 w2 x) (record { dist = none; result = 0 ∷ h ∷ [] }) (record { dist = max64; result = (0, h) })
      (λ x m. split_try x (tries_le h lo hi x m)) (record { dist = refl; result = refl })

  solve-two : pair_list (solve_two_vars h i64 w1 w2) ≡ solve_two w1 w2 T h P
  unfolding solve_two_vars x_values solve_two found_r found_n
  solve-two = go (eqb w1 w2) refl
    where
      raw : Float
      raw = quotient (i64 -ℤ pos (w2 * h)) (pos w1 -ℤ pos w2)

      go : (t : Bool) → eqb w1 w2 ≡ t
          → pair_list (cond t (h / 2, h - h / 2) (found_r (floor_u32 raw) (ceil_u32 raw)))
          ≡ cond t (h / 2 ∷ (h - h / 2) ∷ []) (found_n (over / (w1 - w2)) (rounded_up over (w1 - w2)))
      go true t = refl
      go false t =
          let n : w1 ≡ w2 → ⊥ = eqb-false w1 w2 t in
          let d : 0 < w1 - w2 = omega arith in
          let l : w1 - w2 ≤ 61 = le_trans (sub-le w1 w2) light in
          let r : raw ≡ quotient (i64 -ℤ pos (w2 * h)) (pos (w1 - w2)) = ap (λ (b : ℤ). quotient (i64 -ℤ pos (w2 * h)) b) (pos-sub w1 w2 falls) in
          let a = ap (λ (x : Float). floor_u32 x) r ∙ floor-at (i64 -ℤ pos (w2 * h)) over (w1 - w2) (two_less T P (w2 * h)) (less T (P + w2 * h) aim) d l in
          let b = ap (λ (x : Float). ceil_u32 x) r ∙ ceil-at (i64 -ℤ pos (w2 * h)) over (w1 - w2) (two_less T P (w2 * h)) (less T (P + w2 * h) aim) d l in
          found (floor_u32 raw) (ceil_u32 raw) ∙ ap (λ (x : ℕ). found_n x (ceil_u32 raw)) a ∙ ap (λ (x : ℕ). found_n (over / (w1 - w2)) x) b

-- the weights fall from b down
abbrev pub Under : ℕ → List ℕ → Type 0
Under b [] = T true
Under b (w ∷ ws) = (w ≤ b) × Under w ws

under_more : (a b : ℕ) (ws : List ℕ) → a ≤ b → Under a ws → Under b ws
under_more a b [] l h = tt
under_more a b (w ∷ ws) l h = (le_trans h.0 l, h.1)

pub missing-under : (b : ℕ) (ws : List ℕ) (gs : List (Option ℕ)) → Under b ws → Under b (missing ws gs)
unfolding missing
missing-under b [] gs h = tt
missing-under b (w ∷ ws) [] h = tt
missing-under b (w ∷ ws) (none ∷ gs) h = (h.0, missing-under w ws gs h.1)
missing-under b (w ∷ ws) (some n ∷ gs) h = missing-under b ws gs (under_more w b ws h.0 h.1)

-- the ten arms: solve is asked with the first two missing weights
solved_by : (ℕ → ℕ → ℕ × ℕ) → List ℕ → List ℕ
solved_by f [] = []
solved_by f (w1 ∷ []) = []
solved_by f (w1 ∷ (w2 ∷ ws)) = pair_list (f w1 w2)

solve-same : (ws : List ℕ) (T h P : ℕ) → Under 61 ws → T < 2 ^ 31 → h ≤ 2 ^ 31 → P ≤ 2 ^ 40
    → solved_by (solve_two_vars h (pos T -ℤ pos P)) ws ≡ solve ws T h P
unfolding solved_by solve
solve-same [] T h P u a f e = refl
solve-same (w1 ∷ []) T h P u a f e = refl
solve-same (w1 ∷ (w2 ∷ ws)) T h P u a f e = solve-two w1 w2 T h P u.1.0 u.0 a f e

-- no missing place is left for a third
given-or_0 : List (Option ℕ) → List ℕ
given-or_0 [] = []
given-or_0 (g ∷ gs) = or g 0 ∷ given-or_0 gs

fill_rest : (gs : List (Option ℕ)) → fill gs [] ≡ given-or_0 gs
unfolding fill given-or_0 or
fill_rest [] = refl
fill_rest (none ∷ gs) = ap (λ (xs : List ℕ). 0 ∷ xs) (fill_rest gs)
fill_rest (some n ∷ gs) = ap (λ (xs : List ℕ). n ∷ xs) (fill_rest gs)

module _ (f : ℕ → ℕ → ℕ × ℕ) (w misses : ℕ) where
  abbrev filled : List (Option ℕ) → HitResults
  filled gs = result_of (fill gs (solved_by f (missing (w ∷ 60 ∷ 40 ∷ 20 ∷ 10 ∷ []) gs))) misses

  arms_same : (a b c d e : Option ℕ) → match_two_missing f w misses a b c d e ≡ filled (a ∷ b ∷ c ∷ d ∷ e ∷ [])
  unfolding match_two_missing result_of fill solved_by missing given-or_0 or
  arms_same none none c d e = let s = f w 60 in ap (λ (xs : List ℕ). result_of (s.0 ∷ s.1 ∷ xs) misses) (sym (fill_rest (c ∷ d ∷ e ∷ [])))
  arms_same none (some b) none d e = let s = f w 40 in ap (λ (xs : List ℕ). result_of (s.0 ∷ b ∷ s.1 ∷ xs) misses) (sym (fill_rest (d ∷ e ∷ [])))
  arms_same none (some b) (some c) none e = let s = f w 20 in ap (λ (xs : List ℕ). result_of (s.0 ∷ b ∷ c ∷ s.1 ∷ xs) misses) (sym (fill_rest (e ∷ [])))
  arms_same none (some b) (some c) (some d) none = refl
  arms_same (some a) none none d e = let s = f 60 40 in ap (λ (xs : List ℕ). result_of (a ∷ s.0 ∷ s.1 ∷ xs) misses) (sym (fill_rest (d ∷ e ∷ [])))
  arms_same (some a) none (some c) none e = let s = f 60 20 in ap (λ (xs : List ℕ). result_of (a ∷ s.0 ∷ c ∷ s.1 ∷ xs) misses) (sym (fill_rest (e ∷ [])))
  arms_same (some a) none (some c) (some d) none = refl
  arms_same (some a) (some b) none none e = let s = f 40 20 in ap (λ (xs : List ℕ). result_of (a ∷ b ∷ s.0 ∷ s.1 ∷ xs) misses) (sym (fill_rest (e ∷ [])))
  arms_same (some a) (some b) none (some d) none = refl
  arms_same (some a) (some b) (some c) none none = refl
  arms_same none (some b) (some c) (some d) (some e) = refl
  arms_same (some a) none (some c) (some d) (some e) = refl
  arms_same (some a) (some b) none (some d) (some e) = refl
  arms_same (some a) (some b) (some c) none (some e) = refl
  arms_same (some a) (some b) (some c) (some d) none = refl
  arms_same (some a) (some b) (some c) (some d) (some e) = refl

-- ---- a play whose numbers are small, and the same play with the target as an i64
pub record Small (p : Play) : Type 0 where
  pub heavy : 60 ≤ p.w320
  pub top : p.w320 ≤ 61
  pub aim : p.target < 2 ^ 31
  pub hits : p.remain ≤ 2 ^ 31
  pub given : given_points (weights p) (provided p) ≤ 2 ^ 40

abbrev pub to_args : Play → Args
to_args p = record {
  w320 = p.w320;
  target_numerator = pos p.target;
  remain = p.remain;
  misses = p.misses;
  n320 = p.n320;
  n300 = p.n300;
  n200 = p.n200;
  n100 = p.n100;
  n50 = p.n50;
}

two_same : (p : Play) → Small p
    → optimize_two_missing (to_args p) ≡ cond (ltb p.remain (given_hits (provided p))) (refused 12) (worked (six (plain_optimize_two_missing p)))
unfolding optimize_two_missing plain_optimize_two_missing
two_same p s =
    let u : Under 61 (weights p) = (s.top, (s.heavy, (lit≤ tt, (lit≤ tt, (lit≤ tt, tt))))) in
    let h = p.remain - given_hits (provided p) in
    let f = solve_two_vars h (pos p.target -ℤ pos (given_points (weights p) (provided p))) in
    ap (λ (r : HitResults). cond (ltb p.remain (given_hits (provided p))) (refused 12) (worked (six r)))
    (arms_same f p.w320 p.misses p.n320 p.n300 p.n200 p.n100 p.n50
    ∙ ap (λ (xs : List ℕ). result_of (fill (provided p) xs) p.misses)
    (solve-same (missing (weights p) (provided p)) p.target h (given_points (weights p) (provided p)) (missing-under 61 (weights p) (provided p) u) s.aim (le_trans (sub-le p.remain (given_hits (provided p))) s.hits) s.given))

-- ---- optimize_last_three
abbrev as_is : Last → Last
as_is l = l

module _ (r A T : ℕ) (aim : T < 2 ^ 31) (few : r ≤ 2 ^ 31) (earned : A ≤ 2 ^ 40) where
  abbrev score : ℤ
  score = pos T -ℤ pos A

  last_score : (n c : ℕ) → n ≤ r → A + (40 * n + 20 * min (r - n) c + 10 * (r - n - min (r - n) c)) ≤ 2 ^ 52
  last_score n c l = omega arith

  made_n : ℕ → ℕ → Kept (Option ℕ) Last
  made_n n c =
      let k = r - n in
      let n100 = min k c in
      let n50 = k - n100 in
      record { dist = some (gap (A + (40 * n + 20 * n100 + 10 * n50)) T); result = record { n200 = n; n100 = n100; n50 = n50 } }

  made_r : ℕ → ℕ → Kept Float Last
  made_r n c =
      let k = r - n in
      let n100 = min k c in
      let n50 = k - n100 in
      record { dist = abs_as_f64 (pos (40 * n + 20 * n100 + 10 * n50) -ℤ score); result = record { n200 = n; n100 = n100; n50 = n50 } }

  made : (n c : ℕ) → n ≤ r → Try as_is (made_n n c) (made_r n c)
  unfolding made_n made_r
  made n c l =
      let k = r - n in
      let s = 40 * n + 20 * min k c + 10 * (k - min k c) in
      record {
        at = gap (A + s) T;
        whole = refl;
        float = ap (λ (d : ℕ). of_int binary64 (pos d)) (apart s T A);
        small = gap-le (A + s) T (last_score n c l) (le_trans (le_of_lt aim) (lit≤ tt));
        result = refl;
      }

  last_try : (n : ℕ) → n ≤ r → Try as_is (last_at r A T n) (at_n200 r score n)
  unfolding last_at at_n200 made_n made_r
  last_try n l =
      subst (λ (c : ℕ). Try as_is (made_n n (closest (T - (A + 40 * n + 10 * (r - n))) 10)) (made_r n c))
      (sym (round_at (score -ℤ pos (40 * n) -ℤ pos (10 * (r - n))) (T - (A + 40 * n + 10 * (r - n))) 10 (three_less T A (40 * n) (10 * (r - n))) (less T (A + 40 * n + 10 * (r - n)) aim) (lit< tt) (lit≤ tt)))
      (made n (closest (T - (A + 40 * n + 10 * (r - n))) 10) l)

  last_scan : (lo hi : ℕ) → hi ≤ r
      → (scan lt (each (range lo hi) (λ n. at_n200 r score n ∷ [])) (record { dist = max64; result = record { n200 = 0; n100 = 0; n50 = r } })).result
      ≡ (scan nearer (each (range lo hi) (λ n. last_at r A T n ∷ [])) (record { dist = none; result = record { n200 = 0; n100 = 0; n50 = r } })).result
  last_scan lo hi l =
      scan-same as_is (range lo hi) (λ n. last_at r A T n) (λ n. at_n200 r score n) (record { dist = none; result = record { n200 = 0; n100 = 0; n50 = r } }) (record { dist = max64; result = record { n200 = 0; n100 = 0; n50 = r } })
      (λ n m. last_try n (le_trans (mem-range lo hi n m).1 l)) (record { dist = refl; result = refl })

  -- two missing: a points of the given one, w the weight of each hit left, over d
  two_left : (a w d k : ℕ) → 0 < d → d ≤ 61 → min k (round_u32 (quotient (score -ℤ pos a -ℤ pos (w * k)) (pos d))) ≡ min k (closest (T - (A + a + w * k)) d)
  two_left a w d k D l =
      ap (λ (c : ℕ). min k c) (round_at (score -ℤ pos a -ℤ pos (w * k)) (T - (A + a + w * k)) d (three_less T A a (w * k)) (less T (A + a + w * k) aim) D l)

  last_same : (g2 g1 g5 : Option ℕ) → optimize_last_three g2 g1 g5 r score ≡ plain_optimize_last_three range g2 g1 g5 r A T
  unfolding optimize_last_three n200_values plain_optimize_last_three
  last_same (some n2) (some n1) (some n5) = refl
  last_same (some n2) (some n1) none = refl
  last_same (some n2) none (some n5) = refl
  last_same none (some n1) (some n5) = refl
  last_same (some n2) none none =
      let k = r - n2 in
      ap (λ (c : ℕ). record { n200 = n2; n100 = c; n50 = k - c }) (two_left (40 * n2) 10 10 k (lit< tt) (lit≤ tt))
  last_same none (some n1) none =
      let k = r - n1 in
      ap (λ (c : ℕ). record { n200 = c; n100 = n1; n50 = k - c }) (two_left (20 * n1) 10 30 k (lit< tt) (lit≤ tt))
  last_same none none (some n5) =
      let k = r - n5 in
      ap (λ (c : ℕ). record { n200 = c; n100 = k - c; n50 = n5 }) (two_left (10 * n5) 20 20 k (lit< tt) (lit≤ tt))
  last_same none none none =
      let lo = floor_u32 (quotient (score -ℤ pos (20 * r)) (pos 20)) in
      let hi = ceil_as_u32 (quotient score (pos 40)) in
      let a : lo ≡ (T - (A + 20 * r)) / 20 = floor-at (score -ℤ pos (20 * r)) (T - (A + 20 * r)) 20 (two_less T A (20 * r)) (less T (A + 20 * r) aim) (lit< tt) (lit≤ tt) in
      let b : hi ≡ rounded_up (T - A) 40 = ceil_as_at score (T - A) 40 (one_less T A) (less T A aim) (lit< tt) (lit≤ tt) in
      let run : ℕ → ℕ → Last = λ lo hi. (scan nearer (each (range lo (min r (hi + 1))) (λ n. last_at r A T n ∷ [])) (record { dist = none; result = record { n200 = 0; n100 = 0; n50 = r } })).result in
      last_scan lo (min r (hi + 1)) (omega arith) ∙ ap (λ (x : ℕ). run x hi) a ∙ ap (λ (x : ℕ). run ((T - (A + 20 * r)) / 20) x) b

-- ---- optimize_three_plus_missing
values-le : (g : Option ℕ) (room lo hi x : ℕ) → Memᴰ x (values range g room lo hi) → x ≤ room
unfolding values
values-le (some n) room lo hi x (Memᴰ.head e) = omega arith
values-le (some n) room lo hi x (Memᴰ.tail m) = absurd (Memᴰ.not-nil m)
values-le none room lo hi x m = let h = mem-range (min room lo) (min room hi) x m in omega arith

counted-accuracy : (c : HitResults) (classic : Bool) → Counted (accuracy_of c classic)
unfolding accuracy_of
counted-accuracy c classic = go (eqb (total_hits c) 0) _ (counted-ratio _ _)
  where
    go : (t : Bool) (x : Float) → Counted x → Counted (cond t zero64 x)
    go true x h = counted_zero
    go false x h = h

module _ (p : Play) (s : Small p) where
  abbrev w : ℕ
  w = p.w320

  abbrev aim : ℕ
  aim = p.target

  320_same : (g : Option ℕ) → n320_values (to_args p) g ≡ values range g (p.remain - space p) ((aim - 10 * p.remain) / (w - 10)) (rounded_up aim w + 1)
  unfolding n320_values values min_space_needed space
  320_same (some n) = refl
  320_same none =
      let room = p.remain - (or p.n200 0 + or p.n100 0 + or p.n50 0) in
      let hi = ceil_as_u32 (quotient (pos aim) (pos w)) in
      ap (λ (x : ℕ). range (min room x) (min room (hi + 1)))
      (floor-at (pos aim -ℤ pos (10 * p.remain)) (aim - 10 * p.remain) (w - 10) (one_less aim (10 * p.remain)) (less aim (10 * p.remain) s.aim) (omega (arith, s.heavy)) (omega (arith, s.top)))
      ∙ ap (λ (x : ℕ). range (min room ((aim - 10 * p.remain) / (w - 10))) (min room (x + 1)))
      (ceil_as_at (pos aim) aim w (unfold or_zero in refl) s.aim (omega (arith, s.heavy)) s.top)

  300_same : (x : ℕ) (g : Option ℕ)
      → n300_values (to_args p) x g ≡ values range g (p.remain - x - space p) ((aim - (w * x + 10 * (p.remain - x))) / 50) (rounded_up (aim - w * x) 60 + 1)
  unfolding n300_values values min_space_needed space
  300_same x (some n) = refl
  300_same x none =
      let left = p.remain - x in
      let room = left - (or p.n200 0 + or p.n100 0 + or p.n50 0) in
      let hi = ceil_as_u32 (quotient (pos aim -ℤ pos (w * x)) (pos 60)) in
      ap (λ (x : ℕ). range (min room x) (min room (hi + 1)))
      (floor-at (pos aim -ℤ pos (w * x) -ℤ pos (10 * left)) (aim - (w * x + 10 * left)) 50 (two_less aim (w * x) (10 * left)) (less aim (w * x + 10 * left) s.aim) (lit< tt) (lit≤ tt))
      ∙ ap (λ (y : ℕ). range (min room ((aim - (w * x + 10 * left)) / 50)) (min room (y + 1)))
      (ceil_as_at (pos aim -ℤ pos (w * x)) (aim - w * x) 60 (one_less aim (w * x)) (less aim (w * x) s.aim) (lit< tt) (lit≤ tt))

  earned_le : (x y : ℕ) → x ≤ p.remain → y ≤ p.remain → w * x + 60 * y ≤ 2 ^ 40
  earned_le x y h k =
      let a : w * x ≤ 61 * 2 ^ 31 = mul-le-mul s.top (le_trans h s.hits) in
      let b : 60 * y ≤ 60 * 2 ^ 31 = mul-le-mul_left 60 (le_trans k s.hits) in
      omega arith

  result-same : (x y : ℕ) → x ≤ p.remain → y ≤ p.remain → result_at (to_args p) x y ≡ plain_result_at range p x y
  unfolding result_at plain_result_at
  result-same x y h k =
      ap (λ (l : Last). record { n320 = x; n300 = y; n200 = l.n200; n100 = l.n100; n50 = l.n50; misses = p.misses })
      (last_same (p.remain - (x + y)) (w * x + 60 * y) aim s.aim (le_trans (sub-le p.remain (x + y)) s.hits) (earned_le x y h k) p.n200 p.n100 p.n50)

  dist_same : (c : HitResults) → dist_of (to_args p) c ≡ (try_at p c).dist
  unfolding dist_of try_at
  dist_same c = abs-sub (accuracy_of c (eqb w 60)) (ratio aim (w * (p.remain + p.misses))) (counted-accuracy c (eqb w 60)) (counted-ratio aim (w * (p.remain + p.misses)))

  inner-same : (x y : ℕ) → x ≤ p.remain → y ≤ p.remain → at_new300 (to_args p) x y ≡ inner range p x y
  unfolding at_new300 inner min_space_needed space try_at
  inner-same x y h k =
      let full = ltb (p.remain - (x + y)) (or p.n200 0 + or p.n100 0 + or p.n50 0) in
      ap (λ (c : HitResults). cond full [] (record { dist = dist_of (to_args p) c; result = c } ∷ [])) (result-same x y h k)
      ∙ ap (λ (d : Float). cond full [] (record { dist = d; result = plain_result_at range p x y } ∷ [])) (dist_same (plain_result_at range p x y))

  in_300 : (x y : ℕ) → Memᴰ y (values300 range p x) → y ≤ p.remain
  unfolding values300
  in_300 x y m = room-le p.remain x (space p) y (values-le p.n300 (p.remain - x - space p) ((aim - (w * x + 10 * (p.remain - x))) / 50) (rounded_up (aim - w * x) 60 + 1) y m)
    where
      room-le : (r x s y : ℕ) → y ≤ r - x - s → y ≤ r
      room-le r x s y h = omega arith

  outer_same : (x : ℕ) → x ≤ p.remain → at_new320 (to_args p) x ≡ outer range p x
  unfolding at_new320 outer min_space_needed space values300
  outer_same x h =
      let full = ltb (p.remain - x) (or p.n200 0 + or p.n100 0 + or p.n50 0) in
      ap (λ (ys : List ℕ). cond full [] (each ys (at_new300 (to_args p) x))) (300_same x p.n300)
      ∙ ap (λ (ts : List (Kept Float HitResults)). cond full [] ts) (each_same (values300 range p x) (at_new300 (to_args p) x) (inner range p x) (λ y m. inner-same x y h (in_300 x y m)))

  in_320 : (x : ℕ) → Memᴰ x (values320 range p) → x ≤ p.remain
  unfolding values320
  in_320 x m = le_trans (values-le p.n320 (p.remain - space p) ((aim - 10 * p.remain) / (w - 10)) (rounded_up aim w + 1) x m) (sub-le p.remain (space p))

  three_same : optimize_three_plus_missing (to_args p) ≡ plain_optimize_three_plus_missing p
  unfolding optimize_three_plus_missing plain_optimize_three_plus_missing search best_result start values320
  three_same =
      ap (λ (xs : List ℕ). (scan lt (each xs (at_new320 (to_args p))) (best_result (to_args p))).result) (320_same p.n320)
      ∙ ap (λ (ts : List (Kept Float HitResults)). (scan lt ts (start p)).result) (each_same (values320 range p) (at_new320 (to_args p)) (outer range p) (λ x m. outer_same x (in_320 x m)))

-- ---- the match by what is given
count-missing : (ws : List ℕ) (gs : List (Option ℕ)) → length ws ≡ length gs → count gs + length (missing ws gs) ≡ length gs
unfolding count missing
count-missing [] [] e = refl
count-missing [] (g ∷ gs) e = absurd (omega arith)
count-missing (w ∷ ws) [] e = absurd (omega arith)
count-missing (w ∷ ws) (none ∷ gs) e = let k : length ws ≡ length gs = omega arith in omega (arith, count-missing ws gs k)
count-missing (w ∷ ws) (some n ∷ gs) e = let k : length ws ≡ length gs = omega arith in omega (arith, count-missing ws gs k)

module _ (p : Play) (s : Small p) where
  abbrev lacking : ℕ
  lacking = length (missing (weights p) (provided p))

  -- two or more missing
  optimize_same : 2 ≤ lacking → optimize_hitresults (to_args p) ≡ by_missing lacking p
  unfolding optimize_hitresults by_missing
  optimize_same l = go lacking refl (count (provided p)) (count-missing (weights p) (provided p) refl) l
    where
      go : (n : ℕ) → lacking ≡ n → (k : ℕ) → k + n ≡ 5 → 2 ≤ n
          → cond (eqb k 3) (optimize_two_missing (to_args p)) (worked (six (optimize_three_plus_missing (to_args p)))) ≡ by_missing n p
      go zero e k f h = absurd (omega arith)
      go (suc zero) e k f h = absurd (omega arith)
      go (suc (suc zero)) e k f h =
          ap (λ (t : Bool). cond t (optimize_two_missing (to_args p)) (worked (six (optimize_three_plus_missing (to_args p))))) (eq-eqb k 3 (omega arith)) ∙ two_same p s
      go (suc (suc (suc n))) e k f h =
          ap (λ (t : Bool). cond t (optimize_two_missing (to_args p)) (worked (six (optimize_three_plus_missing (to_args p))))) (ne_eqb k 3 (λ (z : k ≡ 3). omega arith))
          ∙ ap (λ (r : HitResults). worked (six r)) (three_same p s)

-- the arms by number: at most one missing is clamped, two or more are optimized
module _ (w T r m : ℕ) where
  abbrev play : Option ℕ → Option ℕ → Option ℕ → Option ℕ → Option ℕ → Play
  play a b c d e = record { w320 = w; target = T; remain = r; misses = m; n320 = a; n300 = b; n200 = c; n100 = d; n50 = e }

  abbrev Match : Option ℕ → Option ℕ → Option ℕ → Option ℕ → Option ℕ → Type 0
  Match a b c d e = let p = play a b c d e in match_given (to_args p) a b c d e ≡ by_missing (length (missing (weights p) (provided p))) p

  -- four given counts clamped, and the fifth, at its place by f, takes the rest; t is their sum, with a 0 at that place
  one_left : (a b c d : ℕ) (f : ℕ → ℕ → ℕ → ℕ → ℕ → List ℕ) (t : ℕ → ℕ → ℕ → ℕ → ℕ) → ((v x y z : ℕ) → r - v - x - y - z ≡ r - t v x y z)
      → let n1 = min a r in let n2 = min b (r - n1) in let n3 = min c (r - n1 - n2) in let n4 = min d (r - n1 - n2 - n3) in
      worked (f n1 n2 n3 n4 (r - n1 - n2 - n3 - n4)) ≡ worked (f n1 n2 n3 n4 (r - t n1 n2 n3 n4))
  one_left a b c d f t same =
      let n1 = min a r in
      let n2 = min b (r - n1) in
      let n3 = min c (r - n1 - n2) in
      let n4 = min d (r - n1 - n2 - n3) in
      ap (λ (k : ℕ). worked (f n1 n2 n3 n4 k)) (same n1 n2 n3 n4)

  pub match_same : (a b c d e : Option ℕ) → Small (play a b c d e) → Match a b c d e
  unfolding match_given by_missing missing clamp_and_fill clamp fill given_hits or result_of
  match_same (some a) (some b) (some c) (some d) (some e) s = refl
  match_same (some a) (some b) (some c) (some d) none s = one_left a b c d (λ v x y z k. v ∷ x ∷ y ∷ z ∷ k ∷ m ∷ []) (λ v x y z. v + (x + (y + (z + (0 + 0))))) (λ v x y z. omega arith)
  match_same (some a) (some b) (some c) none (some e) s = one_left a b c e (λ v x y z k. v ∷ x ∷ y ∷ k ∷ z ∷ m ∷ []) (λ v x y z. v + (x + (y + (0 + (z + 0))))) (λ v x y z. omega arith)
  match_same (some a) (some b) none (some d) (some e) s = one_left a b d e (λ v x y z k. v ∷ x ∷ k ∷ y ∷ z ∷ m ∷ []) (λ v x y z. v + (x + (0 + (y + (z + 0))))) (λ v x y z. omega arith)
  match_same (some a) none (some c) (some d) (some e) s = one_left a c d e (λ v x y z k. v ∷ k ∷ x ∷ y ∷ z ∷ m ∷ []) (λ v x y z. v + (0 + (x + (y + (z + 0))))) (λ v x y z. omega arith)
  match_same none (some b) (some c) (some d) (some e) s = one_left b c d e (λ v x y z k. k ∷ v ∷ x ∷ y ∷ z ∷ m ∷ []) (λ v x y z. 0 + (v + (x + (y + (z + 0))))) (λ v x y z. omega arith)
  match_same (some a) (some b) (some c) none none s = optimize_same (play (some a) (some b) (some c) none none) s (omega arith)
  match_same (some a) (some b) none (some d) none s = optimize_same (play (some a) (some b) none (some d) none) s (omega arith)
  match_same (some a) (some b) none none e s = optimize_same (play (some a) (some b) none none e) s (omega arith)
  match_same (some a) none (some c) (some d) none s = optimize_same (play (some a) none (some c) (some d) none) s (omega arith)
  match_same (some a) none (some c) none e s = optimize_same (play (some a) none (some c) none e) s (omega arith)
  match_same (some a) none none d e s = optimize_same (play (some a) none none d e) s (omega arith)
  match_same none (some b) (some c) (some d) none s = optimize_same (play none (some b) (some c) (some d) none) s (omega arith)
  match_same none (some b) (some c) none e s = optimize_same (play none (some b) (some c) none e) s (omega arith)
  match_same none (some b) none d e s = optimize_same (play none (some b) none d e) s (omega arith)
  match_same none none c d e s = optimize_same (play none none c d e) s (omega arith)
