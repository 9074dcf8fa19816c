-- The search over the first two values of each loop is the whole search. Assumes nothing.
use Prim.Native.Nat.{ℕ, suc, ◌+◌, ◌-◌, ◌*◌, ◌/◌, ◌^◌, ◌<◌, ◌≤◌, min, zero-le}
use mathlib.Core.Path.{◌≡◌, refl, sym, ap, ◌∙◌, subst}
use mathlib.Core.Bool.{Bool, true, false, cond}
use mathlib.Core.Option.{Option, none, some}
use mathlib.Core.List.Memᴰ
use mathlib.Core.List.{List, [], ◌∷◌, Memᴰ}
use native.Mathlib.Nat.{mul-add, add-mul, mul_comm, mul-le-mul_right, mul-le-mul_left, mul-pos, le_trans, le_of_lt, lt_of_le_of_lt, lt_of_lt_of_le, lt-div-mul-add}
use native.Mathlib.Omega.{arith}
use native.Mathlib.Decide.{dec_le}
use borrow.Author.Tests.{le-ltb, ltb-false, eq-eqb, ne_eqb}
use lib.Dec.{ltb, eqb, lit≤, lit<}
use lib.Ieee.{Float, lt}
use Rattle.rounding.specs.Round.{zero64}
use Rattle.rounding.specs.Distance.{ratio, distance}
use Rattle.score_state.specs.Points.{perfect_weight, standard, hits, points, counts_of, total_hits}
use Rattle.score_state.specs.Accuracy.{accuracy_of}
use Rattle.score_state.specs.declared.HitResults.{HitResults}
use Rattle.closest_laws.specs.Loops.{Kept, range, first_two, each, scan}
use Rattle.rounding.specs.Quotient.{rounded_up}
use Rattle.closest_laws.specs.Closest.{Play, Last, weights, plain_optimize_last_three, space, values, values320, values300, plain_result_at, try_at, inner, outer, start, search, plain_optimize_three_plus_missing, capped_search}
use Rattle.rounding.proofs.Less.{lt_self, lt_trans}
use Rattle.closest_laws.proofs.Scan.{mem-each, mem_two, mem-range, two_first, each-mem, scan-each, two_enough, Enough}
use Rattle.closest_laws.proofs.LastThree.{Open, sized, worth, space_of, given_worth, lightest, last_same, last_hits, light}
use Rattle.rounding.proofs.Apart.{further}

-- ---- the values of a loop, or the one given
values-le : (o : Option ℕ) (room lo hi x : ℕ) → Memᴰ x (values range o room lo hi) → x ≤ room
unfolding values
values-le (some n) room lo hi x m = omega (arith, Memᴰ.eq_of_singleton m)
values-le none room lo hi x m = let h = mem-range (min room lo) (min room hi) x m in omega arith

two_le : (o : Option ℕ) (room lo hi x : ℕ) → Memᴰ x (values first_two o room lo hi) → x ≤ room
unfolding values
two_le (some n) room lo hi x m = omega (arith, Memᴰ.eq_of_singleton m)
two_le none room lo hi x m = let h = mem_two (min room lo) (min room hi) x m in omega arith

abbrev Two : (ℕ → List (Kept Float HitResults)) → ℕ → ℕ → Type 0
Two f lo hi = Enough lt lt_self lt_trans f lo hi

values-cap
    : (o : Option ℕ) (room lo hi : ℕ) (f : ℕ → List (Kept Float HitResults))
    → (o ≡ none → suc (min room lo) < min room hi → Two f (min room lo) (min room hi))
    → (b : Kept Float HitResults) → scan lt (each (values range o room lo hi) f) b ≡ scan lt (each (values first_two o room lo hi) f) b
unfolding values
values-cap (some n) room lo hi f e b = refl
values-cap none room lo hi f e b = two_enough lt lt_self lt_trans f (min room lo) (min room hi) (e refl) b

-- the first value, and that it rises less than the count before it
abbrev first_of : Option ℕ → ℕ → ℕ
first_of (some n) room = min n room
first_of none room = 0

values-first : (o : Option ℕ) (room lo hi : ℕ) → lo ≡ 0 → Memᴰ (first_of o room) (values first_two o room lo hi)
unfolding values
values-first (some n) room lo hi e = Memᴰ.head refl
values-first none room lo hi e =
    let z : min room lo ≡ 0 = omega arith in
    subst (λ (k : ℕ). Memᴰ k (first_two (min room lo) (min room hi))) z (two_first (min room lo) (min room hi) (omega arith))

values_rise
    : (o : Option ℕ) (R N x n lo hi y : ℕ) → x ≤ n → n + N ≤ R → Memᴰ y (values first_two o (R - n - N) lo hi)
    → x + first_of o (R - x - N) ≤ n + y
unfolding values
values_rise (some g) R N x n lo hi y h l m = let e : y ≡ min g (R - n - N) = Memᴰ.eq_of_singleton m in rw e (omega arith)
values_rise none R N x n lo hi y h l m = omega arith

first-le : (o : Option ℕ) (room : ℕ) → first_of o room ≤ room
first-le (some n) room = omega arith
first-le none room = zero-le

-- ---- points
light_high : (b c : Option ℕ) (s : ℕ) → lightest b c * s ≤ 40 * s
light_high b none s = omega arith
light_high none (some c) s = omega arith
light_high (some b) (some c) s = omega arith

light_low : (b c : Option ℕ) (s : ℕ) → 10 * s ≤ lightest b c * s
light_low b none s = omega arith
light_low none (some c) s = omega arith
light_low (some b) (some c) s = omega arith

light_rise : (b c : Option ℕ) (s t : ℕ) → t ≤ s → lightest b c * s + 40 * t ≤ lightest b c * t + 40 * s
light_rise b none s t h = omega arith
light_rise none (some c) s t h = omega arith
light_rise (some b) (some c) s t h = omega arith

heavy : (w x n : ℕ) → 60 ≤ w → x ≤ n → w * x + 60 * n ≤ w * n + 60 * x
heavy w x n h l =
    let e : x + (n - x) ≡ n = omega arith in
    let d : w * x + w * (n - x) ≡ w * n = sym (mul-add w x (n - x)) ∙ ap (λ (z : ℕ). w * z) e in
    omega (arith, mul-le-mul_right (n - x) h)

-- the points of (x, y) filled with the lightest: L4 to L6. G and S are the given ones' points and hits, s what is left, k its worth
up_low : (wx y G S R x k s T : ℕ) → x + y + S ≤ R → s ≡ R - (x + y) - S → 10 * S ≤ G → 10 * s ≤ k → T < wx + 60 * y + 10 * (R - (x + y)) → T ≤ wx + 60 * y + (G + k)
up_low wx y G S R x k s T l e g h t = omega arith

up_high : (w y G S R x k s : ℕ) → 60 ≤ w → x + y + S ≤ R → s ≡ R - (x + y) - S → G ≤ 40 * S → k ≤ 40 * s → w * x + 60 * y + (G + k) ≤ w * R
up_high w y G S R x k s h l e g j =
    omega (arith, heavy w x R h (omega arith))

up_rise
    : (wx wn x n y m G S R k j s t : ℕ) → wx + 60 * n ≤ wn + 60 * x → x + y ≤ n + m → n + m + S ≤ R
    → s ≡ R - (x + y) - S → t ≡ R - (n + m) - S → k + 40 * t ≤ j + 40 * s → wx + 60 * y + (G + k) ≤ wn + 60 * m + (G + j)
up_rise wx wn x n y m G S R k j s t h l r e f d = omega arith

-- ---- the search
-- the weight is that of classic or not, which the Rust asks by `w320 == 60`
pub weight_is : (w : ℕ) → 60 ≤ w → w ≤ 61 → perfect_weight (eqb w 60) ≡ w
weight_is w h l = go (dec_le w 60)
  where
    go : Dec (w ≤ 60) → perfect_weight (eqb w 60) ≡ w
    go (yes k) = let e : w ≡ 60 = omega arith in rw (eq-eqb w 60 e) (sym e)
    go (no k) = let e : w ≡ 61 = omega arith in rw (ne_eqb w 60 (λ (z : w ≡ 60). omega arith)) (sym e)

pub record Fair (p : Play) : Type 0 where
  pub heavy : 60 ≤ p.w320
  pub top : p.w320 ≤ 61
  pub lacks : Open p.n200 p.n100 p.n50
  pub fits : p.w320 * (p.remain + p.misses) < 2 ^ 31

module _ (p : Play) (fair : Fair p) where
  abbrev w : ℕ
  w = p.w320

  abbrev R : ℕ
  R = p.remain

  abbrev target : ℕ
  target = p.target

  abbrev S : ℕ
  S = space_of p.n200 p.n100 p.n50

  abbrev q : ℕ
  q = w * (p.remain + p.misses)

  abbrev last_at_xy : ℕ → ℕ → Last
  last_at_xy x y = plain_optimize_last_three first_two p.n200 p.n100 p.n50 (R - (x + y)) (w * x + 60 * y) target

  abbrev points_at : ℕ → ℕ → ℕ
  points_at x y = w * x + 60 * y + worth (last_at_xy x y)

  abbrev cand : ℕ → ℕ → Kept Float HitResults
  cand x y = try_at p (plain_result_at first_two p x y)

  -- every candidate has all hits, so its accuracy is over the same number
  total-is : (x y : ℕ) → x + y + S ≤ R → total_hits (plain_result_at first_two p x y) ≡ R + p.misses
  unfolding hits plain_result_at
  total-is x y l =
      let h : sized (last_at_xy x y) ≡ R - (x + y) = last_hits p.n200 p.n100 p.n50 (R - (x + y)) (w * x + 60 * y) target fair.lacks (omega arith) in
      omega arith

  points-is : (x y : ℕ) → points (weights p) (counts_of (plain_result_at first_two p x y)) ≡ points_at x y
  unfolding points plain_result_at
  points-is x y = omega arith

  accuracy-is : (x y : ℕ) → 0 < R → x + y + S ≤ R → accuracy_of (plain_result_at first_two p x y) (eqb w 60) ≡ ratio (points_at x y) q
  unfolding accuracy_of
  accuracy-is x y o l =
      let c : HitResults = plain_result_at first_two p x y in
      let e : total_hits c ≡ R + p.misses = total-is x y l in
      let n : eqb (total_hits c) 0 ≡ false = ne_eqb (total_hits c) 0 (λ (z : total_hits c ≡ 0). omega arith) in
      ap (λ (b : Bool). cond b zero64 (ratio (points (standard (eqb w 60)) (counts_of c)) (perfect_weight (eqb w 60) * total_hits c))) n
      ∙ ap (λ (v : ℕ). ratio (points (v ∷ 60 ∷ 40 ∷ 20 ∷ 10 ∷ []) (counts_of c)) (v * total_hits c)) (weight_is w fair.heavy fair.top)
      ∙ ap (λ (t : ℕ). ratio (points (weights p) (counts_of c)) (w * t)) e
      ∙ ap (λ (t : ℕ). ratio t q) (points-is x y)

  dist-is : (x y : ℕ) → 0 < R → x + y + S ≤ R → (cand x y).dist ≡ distance (ratio (points_at x y) q) (ratio target q)
  unfolding try_at
  dist-is x y o l = ap (λ (a : Float). distance a (ratio target q)) (accuracy-is x y o l)

  -- the points of a candidate that passes the target with the lightest judgement everywhere
  abbrev rest : ℕ → ℕ → ℕ
  rest x y = R - (x + y) - S

  abbrev upper : ℕ → ℕ → ℕ
  upper x y = w * x + 60 * y + (given_worth p.n200 p.n100 p.n50 + lightest p.n100 p.n50 * rest x y)

  abbrev Passes : ℕ → ℕ → Type 0
  Passes x y = target < w * x + 60 * y + 10 * (R - (x + y))

  upper_is : (x y : ℕ) → x + y + S ≤ R → Passes x y → points_at x y ≡ upper x y
  upper_is x y l t =
      ap (λ (k : ℕ). w * x + 60 * y + k)
      (light p.n200 p.n100 p.n50 (R - (x + y)) (w * x + 60 * y) target fair.lacks (omega arith) t)

  upper_fits : (x y : ℕ) → x + y + S ≤ R → upper x y < 2 ^ 31
  upper_fits x y l =
      lt_of_le_of_lt
      (le_trans
      (up_high w y (given_worth p.n200 p.n100 p.n50) S R x (lightest p.n100 p.n50 * rest x y) (rest x y) fair.heavy l refl (omega arith) (light_high p.n100 p.n50 (rest x y)))
      (mul-le-mul_left w (omega arith)))
      fair.fits

  -- (n, m) is no nearer than (x, y)
  worse
      : (x y n m : ℕ) → 0 < R → x ≤ n → x + y ≤ n + m → n + m + S ≤ R → Passes x y → Passes n m
      → (z : Float) → lt (cand n m).dist z ≡ true → lt (cand x y).dist z ≡ true
  worse x y n m o xn l r t u z h =
      let lx : x + y + S ≤ R = omega arith in
      let hn : lt (distance (ratio (upper n m) q) (ratio target q)) z ≡ true =
      ap (λ (k : ℕ). lt (distance (ratio k q) (ratio target q)) z) (sym (upper_is n m r u)) ∙ ap (λ (d : Float). lt d z) (sym (dist-is n m o r)) ∙ h in
      ap (λ (d : Float). lt d z) (dist-is x y o lx)
      ∙ ap (λ (k : ℕ). lt (distance (ratio k q) (ratio target q)) z) (upper_is x y lx t)
      ∙ further q
      (mul-pos (lt_of_lt_of_le (lit< tt) fair.heavy) (omega arith))
      (le_trans (le_of_lt fair.fits) (lit≤ tt))
      target (upper x y) (upper n m)
      (up_low (w * x) y (given_worth p.n200 p.n100 p.n50) S R x (lightest p.n100 p.n50 * rest x y) (rest x y) target lx refl (omega arith) (light_low p.n100 p.n50 (rest x y)) t)
      (up_rise (w * x) (w * n) x n y m (given_worth p.n200 p.n100 p.n50) S R (lightest p.n100 p.n50 * rest x y) (lightest p.n100 p.n50 * rest n m) (rest x y) (rest n m)
      (heavy w x n fair.heavy xn) l r refl refl (light_rise p.n100 p.n50 (rest x y) (rest n m) (omega arith)))
      (upper_fits n m r) z hn

  -- ---- the loop bodies
  open_room : (span : ℕ → ℕ → List ℕ) (x y : ℕ) → x + y + S ≤ R → inner span p x y ≡ try_at p (plain_result_at span p x y) ∷ []
  unfolding inner space
  open_room span x y l = rw (le-ltb (R - (x + y)) S (omega arith))

  same-counts : (x y : ℕ) → plain_result_at range p x y ≡ plain_result_at first_two p x y
  unfolding plain_result_at
  same-counts x y =
      ap (λ (l : Last). record { n320 = x; n300 = y; n200 = l.n200; n100 = l.n100; n50 = l.n50; misses = p.misses })
      (last_same p.n200 p.n100 p.n50 (R - (x + y)) (w * x + 60 * y) target)

  same-inner : (x y : ℕ) → inner range p x y ≡ inner first_two p x y
  unfolding inner
  same-inner x y = ap (λ (c : HitResults). cond (ltb (R - (x + y)) (space p)) [] (try_at p c ∷ [])) (same-counts x y)

  cand_mem : (x y : ℕ) → x + y + S ≤ R → Memᴰ (cand x y) (inner first_two p x y)
  cand_mem x y l = subst (λ (ts : List (Kept Float HitResults)). Memᴰ (cand x y) ts) (sym (open_room first_two x y l)) (Memᴰ.head refl)

  mem_cand : (x y : ℕ) (u : Kept Float HitResults) → x + y + S ≤ R → Memᴰ u (inner first_two p x y) → u ≡ cand x y
  mem_cand x y u l m = Memᴰ.eq_of_singleton (subst (λ (ts : List (Kept Float HitResults)). Memᴰ u ts) (open_room first_two x y l) m)

  -- ---- n300 over its first two values
  abbrev low300 : ℕ → ℕ
  low300 x = (target - (w * x + 10 * (R - x))) / 50

  abbrev high300 : ℕ → ℕ
  high300 x = rounded_up (target - w * x) 60 + 1

  abbrev room300 : ℕ → ℕ
  room300 x = R - x - space p

  two300
      : (x : ℕ) → x + S ≤ R → suc (min (room300 x) (low300 x)) < min (room300 x) (high300 x)
      → Two (inner first_two p x) (min (room300 x) (low300 x)) (min (room300 x) (high300 x))
  unfolding space
  two300 x l h =
      let lo = min (room300 x) (low300 x) in (
        cand x (suc lo),
        cand_mem x (suc lo) (omega arith),
        λ n ln nh u m z k.
            let e : u ≡ cand x n = mem_cand x n u (omega arith) m in
            worse x (suc lo) x n (omega arith) (omega arith) (omega arith) (omega arith) (omega arith) (omega arith) z
            (subst (λ (t : Kept Float HitResults). lt t.dist z ≡ true) e k),
      )

  row_same : (x : ℕ) → x ≤ R - S → (b : Kept Float HitResults) → scan lt (outer range p x) b ≡ scan lt (outer first_two p x) b
  unfolding outer values300 space
  row_same x l b = go (ltb (R - x) S) (ltb-false (R - x) S)
    where
      go
          : (t : Bool) → (t ≡ false → S ≤ R - x)
          → scan lt (cond t [] (each (values300 range p x) (inner range p x))) b ≡ scan lt (cond t [] (each (values300 first_two p x) (inner first_two p x))) b
      go true f = refl
      go false f =
          let r : x + S ≤ R = omega (arith, f refl) in
          scan-each lt (values300 range p x) (inner range p x) (inner first_two p x) (λ y m c. ap (λ (ts : List (Kept Float HitResults)). scan lt ts c) (same-inner x y)) b
          ∙ values-cap p.n300 (room300 x) (low300 x) (high300 x) (inner first_two p x) (λ e h. two300 x r h) b

  -- ---- n320 over its first two values
  abbrev low320 : ℕ
  low320 = (target - 10 * R) / (w - 10)

  abbrev high320 : ℕ
  high320 = rounded_up target w + 1

  abbrev room320 : ℕ
  room320 = R - space p

  -- one more than the lowest n320 passes the target with all else n50
  passes320 : (x : ℕ) → low320 < x → x ≤ R → target < w * x + 10 * (R - x)
  passes320 x h l =
      let e : w - 10 + 10 ≡ w = omega (arith, fair.heavy) in
      let d : (w - 10) * x + 10 * x ≡ w * x = sym (add-mul (w - 10) 10 x) ∙ ap (λ (k : ℕ). k * x) e in
      let g : target - 10 * R < low320 * (w - 10) + (w - 10) = lt-div-mul-add (omega (arith, fair.heavy)) in
      let f : suc low320 * (w - 10) ≤ x * (w - 10) = mul-le-mul_right (w - 10) h in
      omega (arith, mul_comm x (w - 10), add-mul low320 1 (w - 10))

  passes-more : (x y : ℕ) → target < w * x + 10 * (R - x) → x + y ≤ R → Passes x y
  passes-more x y h l = omega arith

  outer_open : (x : ℕ) → x + S ≤ R → outer first_two p x ≡ each (values300 first_two p x) (inner first_two p x)
  unfolding outer space
  outer_open x l = rw (le-ltb (R - x) S (omega arith))

  -- the first candidate of a row that passes the target
  row_first : (x : ℕ) → x + S ≤ R → target < w * x + 10 * (R - x) → Memᴰ (cand x (first_of p.n300 (R - x - S))) (outer first_two p x)
  unfolding values300 space
  row_first x l t =
      let y = first_of p.n300 (R - x - S) in
      let yl : x + y + S ≤ R = omega (arith, first-le p.n300 (R - x - S)) in
      subst (λ (ts : List (Kept Float HitResults)). Memᴰ (cand x y) ts) (sym (outer_open x l))
      (each-mem (values300 first_two p x) (inner first_two p x) (cand x y) y
      (values-first p.n300 (R - x - S) (low300 x) (high300 x) (omega arith)) (cand_mem x y yl))

  -- and no candidate of a later row is nearer
  row_worse
      : (x n : ℕ) → x < n → n + S ≤ R → target < w * x + 10 * (R - x) → target < w * n + 10 * (R - n)
      → (u : Kept Float HitResults) → Memᴰ u (outer first_two p n)
      → (z : Float) → lt u.dist z ≡ true → lt (cand x (first_of p.n300 (R - x - S))).dist z ≡ true
  unfolding values300 space
  row_worse x n xn l t v u m z k =
      let i = mem-each (values300 first_two p n) (inner first_two p n) u (subst (λ (ts : List (Kept Float HitResults)). Memᴰ u ts) (outer_open n l) m) in
      let y = first_of p.n300 (R - x - S) in
      let ml : i.0 ≤ R - n - S = two_le p.n300 (R - n - S) (low300 n) (high300 n) i.0 i.1 in
      let nl : n + i.0 + S ≤ R = omega arith in
      let r : x + y ≤ n + i.0 = values_rise p.n300 R S x n (low300 n) (high300 n) i.0 (omega arith) l i.1 in
      worse x y n i.0 (omega arith) (omega arith) r nl
      (passes-more x y t (omega arith)) (passes-more n i.0 v (omega arith)) z
      (subst (λ (c : Kept Float HitResults). lt c.dist z ≡ true) (mem_cand n i.0 u nl i.2) k)

  two320
      : suc (min room320 low320) < min room320 high320
      → Two (outer first_two p) (min room320 low320) (min room320 high320)
  unfolding space
  two320 h =
      let x = suc (min room320 low320) in
      let t : target < w * x + 10 * (R - x) = passes320 x (omega arith) (omega arith) in (
        cand x (first_of p.n300 (R - x - S)),
        row_first x (omega arith) t,
        λ n ln nh u m z k. row_worse x n (omega arith) (omega arith) t (passes320 n (omega arith) (omega arith)) u m z k,
      )

  pub capped_is : plain_optimize_three_plus_missing p ≡ capped_search p
  unfolding plain_optimize_three_plus_missing capped_search search values320 space
  capped_is =
      ap (λ (k : Kept Float HitResults). k.result)
      (scan-each lt (values320 range p) (outer range p) (outer first_two p)
      (λ x m b. row_same x (values-le p.n320 room320 low320 high320 x m) b) (start p)
      ∙ values-cap p.n320 room320 low320 high320 (outer first_two p) (λ e h. two320 h) (start p))
