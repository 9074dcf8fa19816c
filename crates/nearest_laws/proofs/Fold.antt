-- Step 1 changes nothing that a split is judged by: hits, points, and whether there is one. The missing weights that it leaves fall.
use Prim.Native.Nat.{ℕ, ◌+◌, ◌*◌, ◌<◌, ◌≤◌}
use mathlib.Core.Path.{◌≡◌, refl, ap}
use mathlib.Core.Bool.{Bool, true, false, cond}
use mathlib.Core.List.{List, [], ◌∷◌, cons≢nil}
use mathlib.Core.Option.{Option, none, some}
use lib.Dec.{eqb}
use lib.ListN.{length}
use native.Mathlib.Nat.{mul-add}
use native.Mathlib.Omega.{arith}
use borrow.Author.Tests.{eqb-true, eqb-false}
use Rattle.score_state.specs.Points.{hits, points}
use Rattle.score_state.specs.Given.{or, missing, given_hits, given_points}
use Rattle.nearest_laws.specs.Walk.{Falling}
use Rattle.nearest_laws.specs.Split.{IsSplit}
use Rattle.nearest_laws.specs.Nearest.{fold, all_given}

-- what step 1 makes of gs: the same, or n300 set to 0
pub data FoldCase : List ℕ → List (Option ℕ) → List (Option ℕ) → Type 0 where
  same : {ws : List ℕ} {gs : List (Option ℕ)} → FoldCase ws gs gs
  folded : {w v : ℕ} {ws : List ℕ} {gs : List (Option ℕ)} → w ≡ v → FoldCase (w ∷ (v ∷ ws)) (none ∷ (none ∷ gs)) (none ∷ (some 0 ∷ gs))

pub fold_case : (ws : List ℕ) (gs : List (Option ℕ)) → FoldCase ws gs (fold ws gs)
unfolding fold
fold_case [] gs = same
fold_case (w ∷ []) gs = same
fold_case (w ∷ (v ∷ ws)) [] = same
fold_case (w ∷ (v ∷ ws)) (some n ∷ gs) = same
fold_case (w ∷ (v ∷ ws)) (none ∷ []) = same
fold_case (w ∷ (v ∷ ws)) (none ∷ (some n ∷ gs)) = same
fold_case (w ∷ (v ∷ ws)) (none ∷ (none ∷ gs)) = go (eqb w v) refl
  where
    go
        : (b : Bool) → eqb w v ≡ b
        → FoldCase (w ∷ (v ∷ ws)) (none ∷ (none ∷ gs)) (cond b (none ∷ (some 0 ∷ gs)) (none ∷ (none ∷ gs)))
    go true e = folded (eqb-true w v e)
    go false e = same

pub fold-hits : {ws : List ℕ} {gs hs : List (Option ℕ)} → FoldCase ws gs hs → given_hits hs ≡ given_hits gs
unfolding given_hits or
fold-hits same = refl
fold-hits (folded e) = refl

pub fold-points : {ws : List ℕ} {gs hs : List (Option ℕ)} → FoldCase ws gs hs → given_points ws hs ≡ given_points ws gs
unfolding given_points or
fold-points same = refl
fold-points (folded e) = refl

pub fold-long : {ws : List ℕ} {gs hs : List (Option ℕ)} → FoldCase ws gs hs → length hs ≡ length gs
fold-long same = refl
fold-long (folded e) = refl

-- a split after step 1 is a split of the query
pub fold_split
    : {ws : List ℕ} {gs hs : List (Option ℕ)} → FoldCase ws gs hs → (remain : ℕ) (xs : List ℕ) → IsSplit hs remain xs
    → IsSplit gs remain xs
fold_split same remain xs s = s
fold_split (folded e) remain [] s = absurd (omega (arith, s.long))
fold_split (folded e) remain (x ∷ []) s = absurd (omega (arith, s.long))
fold_split (folded e) remain (x ∷ (y ∷ zs)) s = record { long = s.long; keeps = s.keeps.1; sums = s.sums }

-- a split of the query with the same points
pub record Like (ws : List ℕ) (hs : List (Option ℕ)) (remain : ℕ) (xs : List ℕ) : Type 0 where
  pub counts : List ℕ
  pub split : IsSplit hs remain counts
  pub points : points ws counts ≡ points ws xs

-- every split of the query has its like after step 1: n300 moves to n320, which weighs the same
pub fold_like
    : {ws : List ℕ} {gs hs : List (Option ℕ)} → FoldCase ws gs hs → (remain : ℕ) (xs : List ℕ) → IsSplit gs remain xs
    → Like ws hs remain xs
unfolding hits points
fold_like same remain xs s = record { counts = xs; split = s; points = refl }
fold_like (folded e) remain [] s = absurd (omega (arith, s.long))
fold_like (folded e) remain (x ∷ []) s = absurd (omega (arith, s.long))
fold_like (folded {w = w} {v = v} e) remain (x ∷ (y ∷ zs)) s =
    let f : w * y ≡ v * y = ap (λ (z : ℕ). z * y) e in
    record {
      counts = (x + y) ∷ (0 ∷ zs);
      split = record { long = s.long; keeps = (refl, s.keeps); sums = omega (arith, s.sums) };
      points = omega (arith, mul-add w x y);
    }

-- where step 1 leaves nothing missing, all was given
none-missing : (ws : List ℕ) (gs : List (Option ℕ)) → length ws ≡ length gs → missing ws gs ≡ [] → all_given gs ≡ true
unfolding missing all_given
none-missing [] [] l e = refl
none-missing [] (g ∷ gs) l e = absurd (omega arith)
none-missing (w ∷ ws) [] l e = absurd (omega arith)
none-missing (w ∷ ws) (none ∷ gs) l e = absurd (cons≢nil e)
none-missing (w ∷ ws) (some n ∷ gs) l e = none-missing ws gs (omega arith) e

pub fold-given
    : {ws : List ℕ} {gs hs : List (Option ℕ)} → FoldCase ws gs hs → length ws ≡ length gs → missing ws hs ≡ [] → all_given gs ≡ true
unfolding missing
fold-given {ws = ws} {gs = gs} same l e = none-missing ws gs l e
fold-given (folded d) l e = absurd (cons≢nil e)

-- ---- The missing weights fall.

weaken : (a b : ℕ) (ws : List ℕ) → b ≤ a → Falling b ws → Falling a ws
weaken a b [] h f = tt
weaken a b (w ∷ ws) h f = (omega (arith, f.0), f.1)

pub missing_falls : (a : ℕ) (ws : List ℕ) (gs : List (Option ℕ)) → Falling a ws → Falling a (missing ws gs)
unfolding missing
missing_falls a [] gs f = tt
missing_falls a (w ∷ ws) [] f = tt
missing_falls a (w ∷ ws) (none ∷ gs) f = (f.0, missing_falls w ws gs f.1)
missing_falls a (w ∷ ws) (some n ∷ gs) f = missing_falls a ws gs (weaken a w ws (omega (arith, f.0)) f.1)

-- the first two may be equal, and are then never both missing after step 1; M is above all
pub fold_falls
    : (M w v : ℕ) (ws : List ℕ) (gs : List (Option ℕ)) → w < M → v ≤ w → Falling v ws
    → Falling M (missing (w ∷ (v ∷ ws)) (fold (w ∷ (v ∷ ws)) gs))
unfolding missing fold
fold_falls M w v ws [] h l f = tt
fold_falls M w v ws (some n ∷ gs) h l f = missing_falls M (v ∷ ws) gs (omega arith, f)
fold_falls M w v ws (none ∷ []) h l f = (h, tt)
fold_falls M w v ws (none ∷ (some n ∷ gs)) h l f = (h, missing_falls w ws gs (weaken w v ws l f))
fold_falls M w v ws (none ∷ (none ∷ gs)) h l f = go (eqb w v) refl
  where
    go
        : (b : Bool) → eqb w v ≡ b
        → Falling M (missing (w ∷ (v ∷ ws)) (cond b (none ∷ (some 0 ∷ gs)) (none ∷ (none ∷ gs))))
    go true e = (h, missing_falls w ws gs (weaken w v ws l f))
    go false e =
        let n = eqb-false w v e in
        (h, (omega (arith, n), missing_falls v ws gs f))
