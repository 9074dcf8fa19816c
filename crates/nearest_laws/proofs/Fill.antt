-- Counts some of which are given: a split of all of them, seen as a split of the missing ones, and back.
use Prim.Native.Nat.{ℕ, suc, ◌+◌, ◌-◌, ◌*◌, ◌≤◌}
use mathlib.Core.Path.{◌≡◌, refl, sym, ap, ◌∙◌}
use mathlib.Core.Bool.{true, true≢false}
use mathlib.Core.List.{List, [], ◌∷◌}
use mathlib.Core.Option.{Option, none, some}
use lib.ListN.{length}
use native.Mathlib.Nat.{le_refl}
use native.Mathlib.Omega.{arith}
use Rattle.score_state.specs.Points.{hits, points}
use Rattle.units.specs.Gap.{gap}
use Rattle.score_state.specs.Given.{or, missing, given_hits, given_points, fill}
use Rattle.nearest_laws.specs.Walk.{walk, candidates, settle, start, Shares, Falls}
use Rattle.nearest_laws.specs.Split.{Keeps, IsSplit}
use Rattle.nearest_laws.specs.Nearest.{all_given}
use Rattle.nearest_laws.proofs.Near.{walk_split, walk-dist, walk-near}

-- all counts, as many as weights, keep the given ones
pub data Agrees : List ℕ → List (Option ℕ) → List ℕ → Type 0 where
  none_left : Agrees [] [] []
  free : {w x : ℕ} {ws : List ℕ} {gs : List (Option ℕ)} {xs : List ℕ} → Agrees ws gs xs → Agrees (w ∷ ws) (none ∷ gs) (x ∷ xs)
  held : {w n x : ℕ} {ws : List ℕ} {gs : List (Option ℕ)} {xs : List ℕ} → x ≡ n → Agrees ws gs xs → Agrees (w ∷ ws) (some n ∷ gs) (x ∷ xs)

agrees
    : (ws : List ℕ) (gs : List (Option ℕ)) (xs : List ℕ) → length ws ≡ length gs → length xs ≡ length gs → Keeps gs xs
    → Agrees ws gs xs
agrees [] [] [] e f k = none_left
agrees [] [] (x ∷ xs) e f k = absurd (omega arith)
agrees [] (g ∷ gs) xs e f k = absurd (omega arith)
agrees (w ∷ ws) [] xs e f k = absurd (omega arith)
agrees (w ∷ ws) (g ∷ gs) [] e f k = absurd (omega arith)
agrees (w ∷ ws) (none ∷ gs) (x ∷ xs) e f k = free (agrees ws gs xs (omega arith) (omega arith) k)
agrees (w ∷ ws) (some n ∷ gs) (x ∷ xs) e f k = held k.0 (agrees ws gs xs (omega arith) (omega arith) k.1)

keeps : {ws : List ℕ} {gs : List (Option ℕ)} {xs : List ℕ} → Agrees ws gs xs → (length xs ≡ length gs) × Keeps gs xs
keeps none_left = (refl, tt)
keeps (free a) = let i = keeps a in (ap suc i.0, i.1)
keeps (held e a) = let i = keeps a in (ap suc i.0, (e, i.1))

-- what a split of all has at the missing places
unfoldable picked : {ws : List ℕ} {gs : List (Option ℕ)} {xs : List ℕ} → Agrees ws gs xs → List ℕ
picked none_left = []
picked (free {x = x} a) = x ∷ picked a
picked (held e a) = picked a

picked_long : {ws : List ℕ} {gs : List (Option ℕ)} {xs : List ℕ} (a : Agrees ws gs xs) → length (picked a) ≡ length (missing ws gs)
unfolding picked missing
picked_long none_left = refl
picked_long (free a) = ap suc (picked_long a)
picked_long (held e a) = picked_long a

picked_hits : {ws : List ℕ} {gs : List (Option ℕ)} {xs : List ℕ} (a : Agrees ws gs xs) → hits xs ≡ given_hits gs + hits (picked a)
unfolding picked given_hits hits or
picked_hits none_left = refl
picked_hits (free a) = omega (arith, picked_hits a)
picked_hits (held e a) = omega (arith, picked_hits a)

picked_points
    : {ws : List ℕ} {gs : List (Option ℕ)} {xs : List ℕ} (a : Agrees ws gs xs)
    → points ws xs ≡ given_points ws gs + points (missing ws gs) (picked a)
unfolding picked given_points missing points or
picked_points none_left = refl
picked_points (free a) = omega (arith, picked_points a)
picked_points (held {w = w} {n = n} {x = x} e a) =
    let f : w * x ≡ w * n = ap (λ (z : ℕ). w * z) e in
    omega (arith, picked_points a)

-- and back: a split of the missing places, filled in
fill_agrees
    : (ws : List ℕ) (gs : List (Option ℕ)) (xs : List ℕ) → length ws ≡ length gs → length xs ≡ length (missing ws gs)
    → (a : Agrees ws gs (fill gs xs)) × (picked a ≡ xs)
unfolding missing fill picked
fill_agrees [] [] [] e f = (none_left, refl)
fill_agrees [] [] (x ∷ xs) e f = absurd (omega arith)
fill_agrees [] (g ∷ gs) xs e f = absurd (omega arith)
fill_agrees (w ∷ ws) [] xs e f = absurd (omega arith)
fill_agrees (w ∷ ws) (none ∷ gs) [] e f = absurd (omega arith)
fill_agrees (w ∷ ws) (none ∷ gs) (x ∷ xs) e f =
    let i = fill_agrees ws gs xs (omega arith) (omega arith) in
    (free i.0, ap (λ (z : List ℕ). x ∷ z) i.1)
fill_agrees (w ∷ ws) (some n ∷ gs) xs e f =
    let i = fill_agrees ws gs xs (omega arith) f in
    (held refl i.0, i.1)

-- what is given sums to no more than all
pub given-le : (gs : List (Option ℕ)) (remain : ℕ) (xs : List ℕ) → IsSplit gs remain xs → given_hits gs ≤ remain
unfolding picked
given-le gs remain xs s =
    let a = agrees xs gs xs s.long s.long s.keeps in
    omega (arith, picked_hits a, s.sums)

-- where all are given, they are the whole
whole : (gs : List (Option ℕ)) (xs : List ℕ) → all_given gs ≡ true → length xs ≡ length gs → Keeps gs xs → given_hits gs ≡ hits xs
unfolding all_given given_hits hits or
whole [] [] e l k = refl
whole [] (x ∷ xs) e l k = absurd (omega arith)
whole (g ∷ gs) [] e l k = absurd (omega arith)
whole (none ∷ gs) (x ∷ xs) e l k = absurd (true≢false (sym e))
whole (some n ∷ gs) (x ∷ xs) e l k = omega (arith, k.0, whole gs xs e (omega arith) k.1)

pub given-all : (gs : List (Option ℕ)) (remain : ℕ) (xs : List ℕ) → all_given gs ≡ true → IsSplit gs remain xs → given_hits gs ≡ remain
given-all gs remain xs e s = whole gs xs e s.long s.keeps ∙ s.sums

-- ---- The walk of any missing weights that fall, none among them.

-- the counts of the walk are shares of R hits, and no others are nearer
pub record Nearest (ws : List ℕ) (T R g : ℕ) (xs : List ℕ) : Type 0 where
  pub shares : Shares ws R xs
  pub near : (ys : List ℕ) → Shares ws R ys → gap (g + points ws xs) T ≤ gap (g + points ws ys) T

pub walk-nearest : (ws : List ℕ) (T R g : ℕ) → Falls ws → (ws ≡ [] → R ≡ 0) → Nearest ws T R g (walk ws T R g).counts
unfolding walk candidates settle start hits points
walk-nearest [] T R g f e = record { shares = record { long = refl; hits = sym (e refl) }; near = λ ys s. le_refl (gap (g + 0) T) }
walk-nearest (a ∷ bs) T R g f e =
    record {
      shares = walk_split a bs f T R g;
      near = λ ys s. rw (← walk-dist a bs f T R g) (walk-near a bs f T R g ys s);
    }

module _ (ws : List ℕ) (gs : List (Option ℕ)) (T remain : ℕ) (xs : List ℕ)
    (long : length ws ≡ length gs) (room : given_hits gs ≤ remain) (n : Nearest (missing ws gs) T (remain - given_hits gs) (given_points ws gs) xs) where
  filled : (a : Agrees ws gs (fill gs xs)) × (picked a ≡ xs)
  filled = fill_agrees ws gs xs long n.shares.long

  -- filled in, they are a split
  pub fill_split : IsSplit gs remain (fill gs xs)
  fill_split =
      let p = ap hits filled.1 in
      let k = keeps filled.0 in
      record { long = k.0; keeps = k.1; sums = omega (arith, picked_hits filled.0, p, n.shares.hits) }

  -- and no other split is nearer
  pub fill-near : (ys : List ℕ) → IsSplit gs remain ys → gap (points ws (fill gs xs)) T ≤ gap (points ws ys) T
  fill-near ys s =
      let a = agrees ws gs ys long s.long s.keeps in
      let p : points ws (fill gs xs) ≡ given_points ws gs + points (missing ws gs) xs =
      picked_points filled.0 ∙ ap (λ (z : List ℕ). given_points ws gs + points (missing ws gs) z) filled.1 in
      let h : Shares (missing ws gs) (remain - given_hits gs) (picked a) =
      record { long = picked_long a; hits = omega (arith, picked_hits a, s.sums) } in
      rw (p, picked_points a) (n.near (picked a) h)
