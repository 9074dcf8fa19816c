-- What demand 3 says of Nearest, for every weighting, the optional counts of a query, target and remaining hits.
use Prim.Native.Nat.{ℕ, ◌-◌, ◌≤◌}
use mathlib.Core.Path.{◌≡◌, refl, sym, ap, ◌∙◌, subst}
use mathlib.Core.Bool.{Bool, true, false, not, cond, ◌&&◌, ◌||◌}
use mathlib.Core.List.{List, [], ◌∷◌}
use mathlib.Core.Logic.{◌↔◌, ⊎_elim}
use mathlib.Core.Option.{Option, none, some, some-injective, none-ne-some}
use lib.Dec.{eqb, ltb}
use lib.ListN.{length}
use native.Mathlib.Omega.{arith}
use borrow.Author.Tests.{ltb-true, ltb-false, eqb-true, eqb-false, not-true, not-false}
use Rattle.score_state.specs.Points.{points, standard}
use Rattle.units.specs.Gap.{gap}
use Rattle.score_state.specs.Given.{missing, given_hits, given_points}
use Rattle.nearest_laws.specs.Walk.{walk, Falling, Falls}
use Rattle.nearest_laws.specs.Split.{IsSplit}
use Rattle.nearest_laws.specs.Nearest.{Weighting, standard-weighting, fold, all_given, stops, Found, found, nearest}
use Rattle.nearest_laws.proofs.Near.{neither, either, both_true}
use Rattle.nearest_laws.proofs.Fill.{Nearest, walk-nearest, fill_split, fill-near, given-le, given-all}
use Rattle.nearest_laws.proofs.Fold.{fold_case, fold-hits, fold-points, fold-long, fold_split, fold_like, fold-given, fold_falls}

-- ---- What check 14 leaves.

pub neither_left : (x y : Bool) → (x || y) ≡ false → x ≡ false
neither_left true y e = e
neither_left false y e = refl

pub and-true : (x y : Bool) → (x && y) ≡ true → x ≡ true
and-true true y e = refl
and-true false true e = e
and-true false false e = e

pub stops-room : (gs : List (Option ℕ)) (remain : ℕ) → stops gs remain ≡ false → given_hits gs ≤ remain
unfolding stops
stops-room gs remain e = ltb-false remain (given_hits gs) (neither_left (ltb remain (given_hits gs)) _ e)

stops_whole : (gs : List (Option ℕ)) (remain : ℕ) → stops gs remain ≡ false → all_given gs ≡ true → given_hits gs ≡ remain
unfolding stops
stops_whole gs remain e a =
    eqb-true (given_hits gs) remain
    (not-false (eqb (given_hits gs) remain)
    (subst (λ (b : Bool). (b && not (eqb (given_hits gs) remain)) ≡ false) a
    (neither (ltb remain (given_hits gs)) (all_given gs && not (eqb (given_hits gs) remain)) e)))

-- a weighting's missing weights fall, after step 1, from at most 100
pub weighting_falls : (ws : List ℕ) (gs : List (Option ℕ)) → Weighting ws → Falling 101 (missing ws (fold ws gs))
weighting_falls ws gs w =
    rw w.five
    (fold_falls 101 w.n320 w.n300 (w.n200 ∷ w.n100 ∷ w.n50 ∷ []) gs (omega (arith, w.most)) w.perfect
    (w.great, (w.good, (w.ok, tt))))

pub falls : (M : ℕ) (ws : List ℕ) → Falling M ws → Falls ws
falls M [] f = tt
falls M (a ∷ bs) f = f.1

-- ---- The answer where check 14 does not stop.
module _ (ws : List ℕ) (gs : List (Option ℕ)) (T remain : ℕ) (w : Weighting ws) (five : length gs ≡ 5) (goes : stops gs remain ≡ false) where
  counts : List ℕ
  counts = (walk (missing ws (fold ws gs)) T (remain - given_hits gs) (given_points ws gs)).counts

  long : length ws ≡ length gs
  long = ap length w.five ∙ sym five

  left : missing ws (fold ws gs) ≡ [] → remain - given_hits gs ≡ 0
  left e =
      let g = stops_whole gs remain goes (fold-given (fold_case ws gs) long e) in
      omega arith

  near : Nearest (missing ws (fold ws gs)) T (remain - given_hits (fold ws gs)) (given_points ws (fold ws gs)) counts
  unfolding counts
  near =
      rw (fold-hits (fold_case ws gs), fold-points (fold_case ws gs))
      (walk-nearest (missing ws (fold ws gs)) T (remain - given_hits gs) (given_points ws gs) (falls 101 (missing ws (fold ws gs)) (weighting_falls ws gs w)) left)

  room : given_hits (fold ws gs) ≤ remain
  room = rw (fold-hits (fold_case ws gs)) (stops-room gs remain goes)

  long-fold : length ws ≡ length (fold ws gs)
  long-fold = long ∙ sym (fold-long (fold_case ws gs))

  pub found_split : IsSplit gs remain (found ws gs T remain).counts
  unfolding found counts
  found_split = fold_split (fold_case ws gs) remain _ (fill_split ws (fold ws gs) T remain counts long-fold room near)

  pub found-near : (xs : List ℕ) → IsSplit gs remain xs → gap (points ws (found ws gs T remain).counts) T ≤ gap (points ws xs) T
  unfolding found counts
  found-near xs s =
      let l = fold_like (fold_case ws gs) remain xs s in
      rw (← l.points) (fill-near ws (fold ws gs) T remain counts long-fold room near l.counts l.split)

-- where there is an answer, check 14 does not stop and it is the walk's
pub answered : (ws : List ℕ) (gs : List (Option ℕ)) (T remain : ℕ) (f : Found) → nearest ws gs T remain ≡ some f
    → (stops gs remain ≡ false) × (found ws gs T remain ≡ f)
unfolding nearest
answered ws gs T remain f e = go (stops gs remain) e
  where
    go : (b : Bool) → cond b none (some (found ws gs T remain)) ≡ some f → (b ≡ false) × (found ws gs T remain ≡ f)
    go true e = absurd (none-ne-some f e)
    go false e = (refl, some-injective (found ws gs T remain) f e)

-- "the walk's six counts, which sum to total hits and keep the given counts": with the misses, which are no part of this
pub nearest_split
    : (ws : List ℕ) (gs : List (Option ℕ)) (T remain : ℕ) (f : Found) → Weighting ws → length gs ≡ 5
    → nearest ws gs T remain ≡ some f → IsSplit gs remain f.counts
nearest_split ws gs T remain f w five e =
    let a = answered ws gs T remain f e in
    rw (← a.1) (found_split ws gs T remain w five a.0)

-- "every split is at least as far from T": also the splits that hold an n300 where step 1 set it to 0
pub nearest-near
    : (ws : List ℕ) (gs : List (Option ℕ)) (T remain : ℕ) (f : Found) → Weighting ws → length gs ≡ 5
    → nearest ws gs T remain ≡ some f → (xs : List ℕ) → IsSplit gs remain xs
    → gap (points ws f.counts) T ≤ gap (points ws xs) T
nearest-near ws gs T remain f w five e xs s =
    let a = answered ws gs T remain f e in
    rw (← a.1) (found-near ws gs T remain w five a.0 xs s)

none_there : (gs : List (Option ℕ)) (remain : ℕ) → stops gs remain ≡ true → (xs : List ℕ) → IsSplit gs remain xs → ⊥
unfolding stops
none_there gs remain e xs s =
    ⊎_elim
    (λ (o : ltb remain (given_hits gs) ≡ true). omega (arith, ltb-true remain (given_hits gs) o, given-le gs remain xs s))
    (λ (o : (all_given gs && not (eqb (given_hits gs) remain)) ≡ true).
    eqb-false (given_hits gs) remain (not-true (eqb (given_hits gs) remain) (both_true (all_given gs) _ o))
    (given-all gs remain xs (and-true (all_given gs) _ o) s))
    (either (ltb remain (given_hits gs)) (all_given gs && not (eqb (given_hits gs) remain)) e)

-- "status 14 exactly when .. no split exists"
pub nearest-stops
    : (gs : List (Option ℕ)) (remain : ℕ) → length gs ≡ 5
    → (stops gs remain ≡ true) ↔ ((xs : List ℕ) → IsSplit gs remain xs → ⊥)
nearest-stops gs remain five = (none_there gs remain, λ h. go (stops gs remain) refl h)
  where
    go : (b : Bool) → stops gs remain ≡ b → ((xs : List ℕ) → IsSplit gs remain xs → ⊥) → stops gs remain ≡ true
    go true e h = e
    go false e h = absurd (h _ (found_split (standard true) gs 0 remain (standard-weighting true) five e))
