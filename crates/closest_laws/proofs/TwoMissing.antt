-- optimize_two_missing: with exactly two counts missing no split of them is nearer to the target. Assumes nothing.
use Prim.Native.Nat.{ℕ, suc, ◌+◌, ◌-◌, ◌*◌, ◌/◌, ◌<◌, ◌≤◌, min}
use mathlib.Core.Path.{◌≡◌, refl, sym, ap, ◌∙◌, subst}
use mathlib.Core.Bool.{Bool, false, cond}
use mathlib.Core.Option.{Option, none, some}
use mathlib.Core.List.{List, [], ◌∷◌, Memᴰ}
use native.Mathlib.Nat.{zero-mul, mul-add, add-mul, mul_comm, mul-le-mul_left, mul-le-mul_right, le_refl, le_trans, div-mul-le_self, lt-div-mul-add, div-lt_iff_lt-mul}
use native.Mathlib.Decide.{dec_le}
use native.Mathlib.Omega.{arith}
use borrow.Author.Tests.{ltb-false, eq-eqb, ne_eqb}
use lib.ListN.{length}
use Rattle.score_state.specs.Points.{hits, points, counts_of}
use Rattle.units.specs.Gap.{gap}
use Rattle.score_state.specs.Given.{or, missing, given_hits, given_points, fill}
use Rattle.closest_laws.specs.Loops.{Kept, each, offer, scan, nearer}
use Rattle.rounding.specs.Quotient.{rounded_up}
use Rattle.closest_laws.specs.Closest.{Play, provided, weights, result_of, split_at, solve_two, solve, plain_optimize_two_missing}
use Rattle.closest_laws.proofs.Scan.{scan-all, scan-made}
use Rattle.closest_laws.proofs.LastThree.{nearer_self, nearer_trans, gap_rises}

-- ---- a quotient rounded up
rounded_up-past : (v d : ℕ) → 0 < d → v ≤ d * rounded_up v d
unfolding rounded_up
rounded_up-past v d D =
    let h : v + (d - 1) < (v + (d - 1)) / d * d + d = lt-div-mul-add D in
    omega (arith, mul_comm d ((v + (d - 1)) / d))

rounded_up_least : (v d j : ℕ) → 0 < d → v / d < j → rounded_up v d ≤ j
unfolding rounded_up
rounded_up_least v d j D h =
    let a : v < v / d * d + d = lt-div-mul-add D in
    let b : suc (v / d) * d ≤ j * d = mul-le-mul_right d h in
    let e : suc (v / d) * d ≡ v / d * d + d = omega (arith, add-mul (v / d) 1 d) in
    let f : suc j * d ≡ j * d + d = omega (arith, add-mul j 1 d) in
    let g : v + (d - 1) < suc j * d = omega arith in
    let k : (v + (d - 1)) / d < suc j = (div-lt_iff_lt-mul D).1 g in
    omega arith

-- ---- h hits at w2, and j of them raised to w1
points-at : (w1 w2 h P j : ℕ) → w2 ≤ w1 → j ≤ h → P + (w1 * j + w2 * (h - j)) ≡ P + w2 * h + (w1 - w2) * j
points-at w1 w2 h P j l k =
    let x : w2 * j + w2 * (h - j) ≡ w2 * h = sym (mul-add w2 j (h - j)) ∙ ap (λ (z : ℕ). w2 * z) (omega arith) in
    let y : w2 * j + (w1 - w2) * j ≡ w1 * j = sym (add-mul w2 (w1 - w2) j) ∙ ap (λ (z : ℕ). z * j) (omega arith) in
    omega arith

-- below the floor fewer are further, and above the rounded_up more
low_near : (B d T q lo j : ℕ) → lo ≤ q → q * d ≤ T - B → j ≤ lo → gap (B + d * lo) T ≤ gap (B + d * j) T
unfolding gap
low_near B d T q lo j l k h = omega (arith, mul_comm q d, mul-le-mul_left d l, mul-le-mul_left d h)

high_near : (B d T hi j : ℕ) → T - B ≤ d * hi → hi ≤ j → gap (B + d * hi) T ≤ gap (B + d * j) T
high_near B d T hi j k h = gap_rises (B + d * hi) (B + d * j) T (omega arith) (omega (arith, mul-le-mul_left d h))

module _ (w1 w2 T h P : ℕ) where
  abbrev over : ℕ
  over = T - (P + w2 * h)

  abbrev d : ℕ
  d = w1 - w2

  abbrev low : ℕ
  low = min h (over / d)

  abbrev high : ℕ
  high = min h (rounded_up over d)

  abbrev at : ℕ → Kept (Option ℕ) (List ℕ)
  at x = split_at w1 w2 T h P x

  abbrev tries : List (Kept (Option ℕ) (List ℕ))
  tries = at 0 ∷ at low ∷ at high ∷ at h ∷ []

  -- the first is always taken
  abbrev found : Kept (Option ℕ) (List ℕ)
  found = scan nearer tries (record { dist = none; result = 0 ∷ h ∷ [] })

  -- what is found is a split
  abbrev IsSplit : Kept (Option ℕ) (List ℕ) → Type 0
  IsSplit k = (x : ℕ) × (x ≤ h) × (k ≡ at x)

  tried_split : (t : Kept (Option ℕ) (List ℕ)) → Memᴰ t tries → IsSplit t
  tried_split t (Memᴰ.head e) = (0, omega arith, e)
  tried_split t (Memᴰ.tail (Memᴰ.head e)) = (low, omega arith, e)
  tried_split t (Memᴰ.tail (Memᴰ.tail (Memᴰ.head e))) = (high, omega arith, e)
  tried_split t (Memᴰ.tail (Memᴰ.tail (Memᴰ.tail (Memᴰ.head e)))) = (h, le_refl h, e)
  tried_split t (Memᴰ.tail (Memᴰ.tail (Memᴰ.tail (Memᴰ.tail x16)))) = elim x16 [ ]

  found_split : IsSplit found
  unfolding scan offer nearer split_at
  found_split = scan-all nearer IsSplit (at low ∷ at high ∷ at h ∷ []) (at 0) (0, omega arith, refl) (λ t m. tried_split t (Memᴰ.tail m))

  -- and none of the four is nearer
  no_nearer : (x y : ℕ) → nearer (at x).dist (at y).dist ≡ false → gap (P + (w1 * y + w2 * (h - y))) T ≤ gap (P + (w1 * x + w2 * (h - x))) T
  unfolding nearer split_at
  no_nearer x y e = ltb-false (gap (P + (w1 * x + w2 * (h - x))) T) (gap (P + (w1 * y + w2 * (h - y))) T) e

  found_least : (x : ℕ) → Memᴰ (at x) tries → gap (P + (w1 * found_split.0 + w2 * (h - found_split.0))) T ≤ gap (P + (w1 * x + w2 * (h - x))) T
  found_least x m =
      no_nearer x found_split.0
      (subst (λ (k : Kept (Option ℕ) (List ℕ)). nearer (at x).dist k.dist ≡ false) found_split.2
      (scan-made nearer nearer_self nearer_trans (at x) tries (record { dist = none; result = 0 ∷ h ∷ [] }) m))

  -- one of the floor and the rounded_up is at least as near as j
  one-near : w2 < w1 → (j : ℕ) → j ≤ h → (x : ℕ) × Memᴰ (at x) tries × (gap (P + (w1 * x + w2 * (h - x))) T ≤ gap (P + (w1 * j + w2 * (h - j))) T)
  one-near l j k = go (dec_le j (over / d))
    where
      go : Dec (j ≤ over / d) → (x : ℕ) × Memᴰ (at x) tries × (gap (P + (w1 * x + w2 * (h - x))) T ≤ gap (P + (w1 * j + w2 * (h - j))) T)
      go (yes g) = (
        low,
        Memᴰ.tail (Memᴰ.head refl),
        rw (points-at w1 w2 h P low (omega arith) (omega arith), points-at w1 w2 h P j (omega arith) k)
            (low_near (P + w2 * h) d T (over / d) low j (omega arith) (div-mul-le_self over d) (omega arith)),
      )
      go (no g) =
          let c : rounded_up over d ≤ j = rounded_up_least over d j (omega arith) (omega arith) in
          let e : high ≡ rounded_up over d = omega arith in
          let o : over ≤ d * high = rw e (rounded_up-past over d (omega arith)) in (
            high,
            Memᴰ.tail (Memᴰ.tail (Memᴰ.head refl)),
            rw (points-at w1 w2 h P high (omega arith) (omega arith), points-at w1 w2 h P j (omega arith) k)
                (high_near (P + w2 * h) d T high j o (omega arith)),
          )

  solved_apart : w2 < w1 → solve_two w1 w2 T h P ≡ found_split.0 ∷ (h - found_split.0) ∷ []
  unfolding solve_two split_at each
  solved_apart l = ap (λ (b : Bool). cond b (h / 2 ∷ (h - h / 2) ∷ []) found.result) (ne_eqb w1 w2 (λ (z : w1 ≡ w2). omega arith)) ∙ ap (λ (k : Kept (Option ℕ) (List ℕ)). k.result) found_split.2

  pub solved_alike : w1 ≡ w2 → solve_two w1 w2 T h P ≡ h / 2 ∷ (h - h / 2) ∷ []
  unfolding solve_two
  solved_alike e = rw (eq-eqb w1 w2 e)

  -- The answer is a split of the h hits, and no split is nearer to T: for any weights, the first not the lighter.
  abbrev pub Solved : Type 0
  Solved = (x : ℕ) × (x ≤ h) × (solve_two w1 w2 T h P ≡ x ∷ (h - x) ∷ [])
      × ((j : ℕ) → j ≤ h → gap (P + (w1 * x + w2 * (h - x))) T ≤ gap (P + (w1 * j + w2 * (h - j))) T)

  pub solved : w2 ≤ w1 → Solved
  solved l = go (dec_le w1 w2)
    where
      go : Dec (w1 ≤ w2) → Solved
      go (yes g) = (
        h / 2,
        omega arith,
        solved_alike (omega arith),
        λ j k.
            let z : w1 - w2 ≡ 0 = omega arith in
            rw (points-at w1 w2 h P (h / 2) l (omega arith), points-at w1 w2 h P j l k, z, zero-mul (h / 2), zero-mul j) (le_refl (gap (P + w2 * h + 0) T)),
      )
      go (no g) = (
        found_split.0,
        found_split.1,
        solved_apart (omega arith),
        λ j k.
            let n = one-near (omega arith) j k in
            le_trans (found_least n.0 n.1) n.2,
      )

  -- the hits and the points of the answer
  pub two_hits : w2 ≤ w1 → hits (solve_two w1 w2 T h P) ≡ h
  unfolding hits
  two_hits l = let s = solved l in ap hits s.2 ∙ omega arith

  pub two_near : w2 ≤ w1 → (j : ℕ) → j ≤ h → gap (P + points (w1 ∷ w2 ∷ []) (solve_two w1 w2 T h P)) T ≤ gap (P + (w1 * j + w2 * (h - j))) T
  unfolding points
  two_near l j k =
      let s = solved l in
      let e : points (w1 ∷ w2 ∷ []) (s.0 ∷ (h - s.0) ∷ []) ≡ w1 * s.0 + w2 * (h - s.0) = omega arith in
      subst (λ (n : ℕ). gap (P + n) T ≤ gap (P + (w1 * j + w2 * (h - j))) T)
      (sym (ap (λ (xs : List ℕ). points (w1 ∷ w2 ∷ []) xs) s.2 ∙ e)) (s.3 j k)

-- ---- of all five counts
points_nil : (ws : List ℕ) → points ws [] ≡ 0
unfolding points
points_nil [] = refl
points_nil (w ∷ ws) = refl

-- given counts and what fills the missing ones, in points and in hits
pub fill-points : (ws : List ℕ) (gs : List (Option ℕ)) (xs : List ℕ) → length ws ≡ length gs → points ws (fill gs xs) ≡ given_points ws gs + points (missing ws gs) xs
unfolding points fill given_points missing or
fill-points [] [] xs e = refl
fill-points [] (g ∷ gs) xs e = absurd (omega arith)
fill-points (w ∷ ws) [] xs e = absurd (omega arith)
fill-points (w ∷ ws) (none ∷ gs) [] e = let i = fill-points ws gs [] (omega arith) in omega (arith, points_nil (missing ws gs))
fill-points (w ∷ ws) (none ∷ gs) (x ∷ xs) e = let i = fill-points ws gs xs (omega arith) in omega arith
fill-points (w ∷ ws) (some n ∷ gs) xs e = let i = fill-points ws gs xs (omega arith) in omega arith

pub fill-hits : (ws : List ℕ) (gs : List (Option ℕ)) (xs : List ℕ) → length ws ≡ length gs → length xs ≡ length (missing ws gs) → hits (fill gs xs) ≡ given_hits gs + hits xs
unfolding hits fill given_hits missing or
fill-hits [] [] [] e f = refl
fill-hits [] [] (x ∷ xs) e f = absurd (omega arith)
fill-hits [] (g ∷ gs) xs e f = absurd (omega arith)
fill-hits (w ∷ ws) [] xs e f = absurd (omega arith)
fill-hits (w ∷ ws) (none ∷ gs) [] e f = absurd (omega arith)
fill-hits (w ∷ ws) (none ∷ gs) (x ∷ xs) e f = let i = fill-hits ws gs xs (omega arith) (omega arith) in omega arith
fill-hits (w ∷ ws) (some n ∷ gs) xs e f = let i = fill-hits ws gs xs (omega arith) f in omega arith

fill-length : (gs : List (Option ℕ)) (xs : List ℕ) → length (fill gs xs) ≡ length gs
unfolding fill
fill-length [] xs = refl
fill-length (none ∷ gs) [] = ap suc (fill-length gs [])
fill-length (none ∷ gs) (x ∷ xs) = ap suc (fill-length gs xs)
fill-length (some n ∷ gs) xs = ap suc (fill-length gs xs)

five : (xs : List ℕ) (m : ℕ) → length xs ≡ 5 → counts_of (result_of xs m) ≡ xs
unfolding result_of
five [] m e = absurd (omega arith)
five (a ∷ []) m e = absurd (omega arith)
five (a ∷ (b ∷ [])) m e = absurd (omega arith)
five (a ∷ (b ∷ (c ∷ []))) m e = absurd (omega arith)
five (a ∷ (b ∷ (c ∷ (d ∷ [])))) m e = absurd (omega arith)
five (a ∷ (b ∷ (c ∷ (d ∷ (x ∷ []))))) m e = refl
five (a ∷ (b ∷ (c ∷ (d ∷ (x ∷ (y ∷ xs)))))) m e = absurd (omega arith)

module _ (p : Play) (w1 w2 : ℕ) (two : missing (weights p) (provided p) ≡ w1 ∷ w2 ∷ []) where
  abbrev left : ℕ
  left = p.remain - given_hits (provided p)

  abbrev earned : ℕ
  earned = given_points (weights p) (provided p)

  -- the given counts are kept
  pub two_filled : counts_of (plain_optimize_two_missing p) ≡ fill (provided p) (solve_two w1 w2 p.target left earned)
  unfolding plain_optimize_two_missing solve
  two_filled =
      five (fill (provided p) (solve (missing (weights p) (provided p)) p.target left earned)) p.misses (fill-length (provided p) (solve (missing (weights p) (provided p)) p.target left earned))
      ∙ ap (λ (ws : List ℕ). fill (provided p) (solve ws p.target left earned)) two

  -- all five sum to remain
  pub two_sum : w2 ≤ w1 → given_hits (provided p) ≤ p.remain → hits (counts_of (plain_optimize_two_missing p)) ≡ p.remain
  two_sum l h =
      let s = solved w1 w2 p.target left earned l in
      let n : length (solve_two w1 w2 p.target left earned) ≡ length (missing (weights p) (provided p)) = ap (λ (xs : List ℕ). length xs) s.2 ∙ sym (ap (λ (xs : List ℕ). length xs) two) in
      let e : hits (fill (provided p) (solve_two w1 w2 p.target left earned)) ≡ given_hits (provided p) + hits (solve_two w1 w2 p.target left earned) =
      fill-hits (weights p) (provided p) (solve_two w1 w2 p.target left earned) refl n in
      let k : hits (solve_two w1 w2 p.target left earned) ≡ left = two_hits w1 w2 p.target left earned l in
      ap (λ (xs : List ℕ). hits xs) two_filled ∙ e ∙ omega arith

  -- no split of the two missing lies nearer to the target
  pub two_nearest
      : w2 ≤ w1 → (j : ℕ) → j ≤ left
      → gap (points (weights p) (counts_of (plain_optimize_two_missing p))) p.target ≤ gap (points (weights p) (fill (provided p) (j ∷ (left - j) ∷ []))) p.target
  unfolding points
  two_nearest l j k =
      let a : points (weights p) (counts_of (plain_optimize_two_missing p)) ≡ earned + points (w1 ∷ w2 ∷ []) (solve_two w1 w2 p.target left earned) =
      ap (λ (xs : List ℕ). points (weights p) xs) two_filled ∙ fill-points (weights p) (provided p) (solve_two w1 w2 p.target left earned) refl
      ∙ ap (λ (ws : List ℕ). earned + points ws (solve_two w1 w2 p.target left earned)) two in
      let b : points (weights p) (fill (provided p) (j ∷ (left - j) ∷ [])) ≡ earned + points (w1 ∷ w2 ∷ []) (j ∷ (left - j) ∷ []) =
      fill-points (weights p) (provided p) (j ∷ (left - j) ∷ []) refl ∙ ap (λ (ws : List ℕ). earned + points ws (j ∷ (left - j) ∷ [])) two in
      let c : earned + points (w1 ∷ w2 ∷ []) (j ∷ (left - j) ∷ []) ≡ earned + (w1 * j + w2 * (left - j)) = omega arith in
      rw (a, b, c) (two_near w1 w2 p.target left earned l j k)
