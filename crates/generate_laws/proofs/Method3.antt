-- Demand 3 of one query, proved of what it is answered under any weighting. Assumes nothing.
use Prim.Native.Nat.{ℕ, zero, suc, ◌+◌, ◌≤◌, ◌<◌}
use mathlib.Core.Path.{◌≡◌, refl, sym, ap, ◌∙◌, subst}
use mathlib.Core.Bool.{Bool, true, false, cond}
use mathlib.Core.List.{List, [], ◌∷◌, ◌++◌}
use mathlib.Core.Logic.{◌↔◌}
use mathlib.Core.Option.{Option, none, some}
use native.Mathlib.Nat.{le_refl, le_trans, le_of_eq}
use native.Mathlib.Omega.{arith}
use borrow.Author.Tests.{eq-eqb, ne_eqb, eqb-true, eqb-false}
use lib.Dec.{eqb, ltb}
use lib.Ieee.{Float}
use lib.IntN.{nat_abs}
use lib.ListN.{length, get_or, length-append}
use lib.Seq.{take-append-le, take_at, get_or-append-add}
use Rattle.units.specs.Limits.{most_hits}
use Rattle.points_left.specs.Left.{most31, bits_of, signed_of}
use Rattle.points_left.proofs.Left.{size_gap, signed_bits, bits_fit}
use Rattle.score_state.specs.Points.{hits, points, standard}
use Rattle.score_state.specs.Given.{missing, given_hits}
use Rattle.score_state.specs.declared.HitResults.{HitResults}
use Rattle.inspect.specs.Inspect.{Inspect, inspect_of, givens, total_hits, misses, remain}
use Rattle.inspect.specs.Checks.{chart_over, unknown_code, count_over, acc_outside, stop_of, InRange, Domain}
use Rattle.score_state.specs.Answer.{Answer, worked, refused, status_of, values_of}
use Rattle.inspect.specs.declared.Query.{Query}
use Rattle.inspect.proofs.Checked.{domain, remain_and_misses, total_within}
use Rattle.ignore_acc.specs.IgnoreAcc.{ignore_acc}
use Rattle.fast.specs.Fast.{fast}
use Rattle.closest_laws.specs.Closest.{weights, provided, six, by_missing, play_of, plain_optimize_two_missing, plain_optimize_three_plus_missing, clamp_and_fill, closest_at}
use Rattle.nearest_laws.specs.Split.{IsSplit}
use Rattle.nearest_laws.specs.Nearest.{Weighting, Found, nearest, stops, standard-weighting}
use Rattle.nearest_laws.proofs.Nearest.{nearest_split, nearest-near, nearest-stops, answered}
use Rattle.nearest_laws.proofs.Tried.{nearest-tried}
use Rattle.generate_laws.specs.Generate.{counted, untried, closest_of, target_of, points_left, found_of, nearest_of, by_method, scored_by, scored_answer}
use Rattle.generate_laws.specs.Method3.{five_of, left_of, distance_of, walk_of, IsNearest}
use Rattle.generate_laws.proofs.Exact.{exact_of, exact_is}
use Rattle.generate_laws.proofs.EquallyFar.{equally_far, closest-hits}
use Rattle.generate_laws.proofs.Left.{left_within}

-- what stands behind the first k values
behind : (k : ℕ) (xs ys : List ℕ) → length xs ≡ k → (n : ℕ) → get_or (xs ++ ys) (k + n) 0 ≡ get_or ys n 0
behind k xs ys e n = ap (λ (j : ℕ). get_or (xs ++ ys) (j + n) 0) (sym e) ∙ get_or-append-add xs ys n 0

-- ---- method 3 with an accuracy
module _ (ws : List ℕ) (i : Inspect) (acc : Float) where
  abbrev walked : Option Found
  walked = nearest ws (givens i) (target_of ws i acc) (remain i)

  -- what stands behind the five counts
  abbrev last : Found → List ℕ
  last f = misses i ∷ f.tried ∷ bits_of (points_left ws i acc f.counts) ∷ []

  -- check 14 or a split, and which
  found-or : (b : Bool) → stops (givens i) (remain i) ≡ b → walked ≡ cond b none (some (walk_of ws i acc))
  unfolding nearest
  found-or b e = ap (λ (x : Bool). cond x none (some (walk_of ws i acc))) e

  pub walked_is : stops (givens i) (remain i) ≡ false → walked ≡ some (walk_of ws i acc)
  walked_is e = found-or false e

  stopped-is : stops (givens i) (remain i) ≡ true → walked ≡ none
  stopped-is e = found-or true e

  -- 14 is told exactly where no split exists
  found-fourteen : (status_of (found_of ws i acc walked) ≡ 14) ↔ ((xs : List ℕ) → IsSplit (givens i) (remain i) xs → ⊥)
  unfolding found_of
  found-fourteen = (λ e. (nearest-stops (givens i) (remain i) refl).0 (go (stops (givens i) (remain i)) refl e), λ n. back ((nearest-stops (givens i) (remain i) refl).1 n))
    where
      go : (b : Bool) → stops (givens i) (remain i) ≡ b → status_of (found_of ws i acc walked) ≡ 14 → stops (givens i) (remain i) ≡ true
      go true s e = s
      go false s e = let z : status_of (found_of ws i acc (some (walk_of ws i acc))) ≡ 14 = sym (ap (λ (o : Option Found). status_of (found_of ws i acc o)) (walked_is s)) ∙ e in absurd (omega arith)

      back : stops (givens i) (remain i) ≡ true → status_of (found_of ws i acc walked) ≡ 14
      back s = ap (λ (o : Option Found). status_of (found_of ws i acc o)) (stopped-is s)

  -- under a weighting
  module _ (w : Weighting ws) where
    split : (f : Found) → walked ≡ some f → IsSplit (givens i) (remain i) f.counts
    split f e = nearest_split ws (givens i) (target_of ws i acc) (remain i) f w refl e

    -- where a split was found, all that demand 3 says of the answer
    is-nearest
        : (most : ℕ) (f : Found) → walked ≡ some f → f.tried ≤ most → nat_abs (points_left ws i acc f.counts) ≤ most31
        → IsNearest ws most i acc (found_of ws i acc (some f))
    unfolding found_of
    is-nearest most f e few small =
        let s = split f e in
        let five = take_at f.counts (last f) 5 s.long in
        let next = behind 5 f.counts (last f) s.long in
        let found = (answered ws (givens i) (target_of ws i acc) (remain i) f e).1 in
        let left : left_of (found_of ws i acc (some f)) ≡ points_left ws i acc f.counts =
        ap signed_of (next 2) ∙ signed_bits (points_left ws i acc f.counts) small in
        record {
          status = refl;
          counts = five ∙ ap (λ (g : Found). g.counts) (sym found);
          total = rw (five, next 0) (ap (λ (n : ℕ). n + misses i) s.sums ∙ remain_and_misses i);
          keeps = rw five s.keeps;
          capped = next 0;
          left = left ∙ ap (points_left ws i acc) (sym five);
          near = λ xs h.
              le_trans (le_of_eq (ap nat_abs left ∙ size_gap (target_of ws i acc) (points ws f.counts)))
              (nearest-near ws (givens i) (target_of ws i acc) (remain i) f w refl e xs h);
          tried = next 1 ∙ ap (λ (g : Found). g.tried) (sym found);
          product = le_trans (le_of_eq (next 1)) (nearest-tried ws (givens i) (target_of ws i acc) (remain i) f w e);
          few = le_trans (le_of_eq (next 1)) few;
        }

    -- of a chart's hits and an accuracy within 0 to 1, left is small
    module _ (t : total_hits i ≤ most_hits) (r : InRange (some acc)) where
      small-left : (f : Found) → walked ≡ some f → nat_abs (points_left ws i acc f.counts) ≤ most31
      small-left f e = left_within ws w i acc t r f.counts (omega (arith, (split f e).sums, remain_and_misses i))

      found-nearest : (most : ℕ) (f : Found) → walked ≡ some f → f.tried ≤ most → IsNearest ws most i acc (found_of ws i acc (some f))
      found-nearest most f e few = is-nearest most f e few (small-left f e)

-- ---- no other check and no other method tells 14, and no number is larger
stop_small : (q : Query) → stop_of q ≤ 11
unfolding stop_of
stop_small q = go (chart_over q.chart) (unknown_code q.method q.priority) (count_over (inspect_of q)) (acc_outside (inspect_of q).acc)
  where
    go : (a b c d : Bool) → cond a 7 (cond b 8 (cond c 10 (cond d 11 0))) ≤ 11
    go true b c d = omega arith
    go false true c d = omega arith
    go false false true d = omega arith
    go false false false true = omega arith
    go false false false false = omega arith

-- Closest's answer with an accuracy: six counts, or 12
abbrev pub SixOr12 : Answer (List ℕ) → Type 0
SixOr12 a = (status_of a ≤ 12) × (status_of a ≡ 0 → length (values_of a) ≡ 6)

six-counts : (r : HitResults) → SixOr12 (worked (six r))
six-counts r = (omega arith, (λ e. refl))

refused_12 : SixOr12 (refused 12)
refused_12 = (omega arith, (λ e. absurd (omega arith)))

either_12 : (b : Bool) (r : HitResults) → SixOr12 (cond b (refused 12) (worked (six r)))
either_12 true r = refused_12
either_12 false r = six-counts r

closest-six : (i : Inspect) (acc : Float) → SixOr12 (closest_at i acc)
unfolding closest_at
closest-six i acc = go (eqb (remain i) 0) (length (missing (weights (play_of i acc)) (provided (play_of i acc))))
  where
    by : (n : ℕ) → SixOr12 (by_missing n (play_of i acc))
    by zero = unfold by_missing in six-counts (clamp_and_fill (play_of i acc))
    by (suc zero) = unfold by_missing in six-counts (clamp_and_fill (play_of i acc))
    by (suc (suc zero)) = unfold by_missing in either_12 (ltb (play_of i acc).remain (given_hits (provided (play_of i acc)))) (plain_optimize_two_missing (play_of i acc))
    by (suc (suc (suc n))) = unfold by_missing in six-counts (plain_optimize_three_plus_missing (play_of i acc))

    go : (b : Bool) (n : ℕ) → SixOr12 (cond b (worked (0 ∷ 0 ∷ 0 ∷ 0 ∷ 0 ∷ misses i ∷ [])) (by_missing n (play_of i acc)))
    go true n = (omega arith, (λ e. refl))
    go false n = by n

untried-status : (a : Answer (List ℕ)) → status_of (untried a) ≡ status_of a
untried-status (worked xs) = refl
untried-status (refused n) = refl

exact_small : (i : Inspect) (o : Option Float) → status_of (exact_of i o) ≤ 12
unfolding exact_of
exact_small i none = omega arith
exact_small i (some acc) = rw untried-status (closest-six i acc).0

closest-small : (q : Query) → Domain q → status_of (closest_of (inspect_of q) (inspect_of q).acc) ≤ 12
closest-small q d = rw (exact_is q d) (exact_small (inspect_of q) (inspect_of q).acc)

untried-five : (a : Answer (List ℕ)) → SixOr12 a → status_of (untried a) ≡ 0 → (five_of (untried a) ≡ five_of a) × (5 ≤ length (values_of (untried a)))
untried-five (worked xs) h e =
    let l : length xs ≡ 6 = h.1 e in
    (take-append-le 5 xs _ (omega arith), simp length-append (omega arith))
untried-five (refused n) h e = let l : ◌≡◌ {A = ℕ} 0 6 = h.1 e in absurd (omega arith)

-- Closest has no left
untried-left : (a : Answer (List ℕ)) → SixOr12 a → get_or (values_of (untried a)) 7 0 ≡ 0
untried-left (worked xs) h = behind 6 xs (0 ∷ 0 ∷ []) (h.1 refl) 1
untried-left (refused n) h = refl

-- an answer of five counts at least, which are no more than a chart's hits, and a left whose bits fit u32
pub record Small (a : Answer (List ℕ)) : Type 0 where
  pub long : 5 ≤ length (values_of a)
  pub few : hits (five_of a) ≤ most_hits
  pub fits : get_or (values_of a) 7 0 < 4_294_967_296

-- of a walk's answer
found-small
    : (ws : List ℕ) (i : Inspect) (acc : Float) (w : Weighting ws) (f : Found) → walked ws i acc ≡ some f → total_hits i ≤ most_hits → InRange (some acc)
    → Small (found_of ws i acc (some f))
unfolding found_of
found-small ws i acc w f e t r =
    let l = length-append f.counts (last ws i acc f) in
    record {
      long = omega (arith, l, (split ws i acc w f e).long);
      few = omega (arith, (found-nearest ws i acc w t r f.tried f e (le_refl f.tried)).total);
      fits = rw (behind 5 f.counts (last ws i acc f) (split ws i acc w f e).long 2) (bits_fit (points_left ws i acc f.counts) (small-left ws i acc w t r f e));
    }

-- "status 14 exactly when its method is 3, it passes every check before 14, and no split exists for it"
pub record Fourteen (q : Query) : Type 0 where
  pub method : q.method ≡ 3
  pub passes : stop_of q ≡ 0
  pub acc : Float
  pub given : (inspect_of q).acc ≡ some acc
  pub none_exists : (xs : List ℕ) → IsSplit (givens (inspect_of q)) (remain (inspect_of q)) xs → ⊥

-- ---- a query's answer under the weights ws
module _ (ws : List ℕ) where
  -- once the shared checks pass
  passes : (q : Query) → stop_of q ≡ 0 → scored_answer ws q ≡ by_method ws q.method (inspect_of q)
  unfolding scored_by
  passes q e = rw (eq-eqb (stop_of q) 0 e)

  halts : (q : Query) → (stop_of q ≡ 0 → ⊥) → scored_answer ws q ≡ refused (stop_of q)
  unfolding scored_by
  halts q n = rw (ne_eqb (stop_of q) 0 n)

  third : (m : ℕ) (i : Inspect) → m ≡ 3 → by_method ws m i ≡ nearest_of ws i i.acc
  unfolding by_method
  third m i e = ap (λ (n : ℕ). by_method ws n i) e

  second : (m : ℕ) (i : Inspect) → m ≡ 2 → by_method ws m i ≡ closest_of i i.acc
  unfolding by_method
  second m i e = ap (λ (n : ℕ). by_method ws n i) e

  -- What holds of every kind of answer holds of what a query is answered: six counts, Closest's answer, a refusal, a walk's.
  module _ (q : Query) (P : Answer (List ℕ) → Type 0)
      (six-hold : (r : HitResults) → P (counted r))
      (closest-holds : (a : Answer (List ℕ)) → SixOr12 a → P (untried a))
      (refusal-holds : (n : ℕ) → 0 < n → n ≤ 14 → P (refused n))
      (walk-holds : q.method ≡ 3 → (acc : Float) (f : Found) → P (found_of ws (inspect_of q) acc (some f))) where
    by_exact : (o : Option Float) → P (exact_of (inspect_of q) o)
    unfolding exact_of
    by_exact none = six-hold (ignore_acc (inspect_of q))
    by_exact (some acc) = closest-holds (closest_at (inspect_of q) acc) (closest-six (inspect_of q) acc)

    by_found : q.method ≡ 3 → (acc : Float) (o : Option Found) → P (found_of ws (inspect_of q) acc o)
    by_found m acc none = unfold found_of in refusal-holds 14 (omega arith) (omega arith)
    by_found m acc (some f) = walk-holds m acc f

    by_nearest : q.method ≡ 3 → (o : Option Float) → P (nearest_of ws (inspect_of q) o)
    unfolding nearest_of
    by_nearest m none = refusal-holds 13 (omega arith) (omega arith)
    by_nearest m (some acc) = by_found m acc (walked ws (inspect_of q) acc)

    by_number : (m : ℕ) → q.method ≡ m → Domain q → P (by_method ws m (inspect_of q))
    unfolding by_method
    by_number zero e d = six-hold (ignore_acc (inspect_of q))
    by_number (suc zero) e d = six-hold (fast (inspect_of q))
    by_number (suc (suc zero)) e d = rw (exact_is q d) (by_exact (inspect_of q).acc)
    by_number (suc (suc (suc m))) e d = by_nearest (omega (arith, d.method)) (inspect_of q).acc

    pub every_answer : P (scored_answer ws q)
    every_answer = go (eqb (stop_of q) 0) refl
      where
        go : (b : Bool) → eqb (stop_of q) 0 ≡ b → P (scored_answer ws q)
        go true b = let p = eqb-true (stop_of q) 0 b in rw (passes q p) (by_number q.method refl (domain q p))
        go false b =
            let n = eqb-false (stop_of q) 0 b in
            rw (halts q n) (refusal-holds (stop_of q) (omega arith) (omega (arith, stop_small q)))

  pub status-small : (q : Query) → status_of (scored_answer ws q) ≤ 14
  unfolding found_of
  status-small q =
      every_answer q (λ (a : Answer (List ℕ)). status_of a ≤ 14) (λ r. omega arith) (λ a h. rw (untried-status a) (omega (arith, h.0))) (λ n p l. l)
      (λ m acc f. omega arith)

  -- ---- Demand 3 of a query

  -- "for every method 3 row that no check stops"
  module _ (q : Query) (acc : Float) (w : Weighting ws) (m : q.method ≡ 3) (e : stop_of q ≡ 0) (a : (inspect_of q).acc ≡ some acc) (s : stops (givens (inspect_of q)) (remain (inspect_of q)) ≡ false) where
    answer_3 : scored_answer ws q ≡ found_of ws (inspect_of q) acc (some (walk_of ws (inspect_of q) acc))
    answer_3 =
        passes q e ∙ third q.method (inspect_of q) m ∙ ap (λ (o : Option Float). nearest_of ws (inspect_of q) o) a
        ∙ unfold nearest_of in ap (found_of ws (inspect_of q) acc) (walked_is ws (inspect_of q) acc s)

    total : total_hits (inspect_of q) ≤ most_hits
    total = total_within q (domain q e)

    range : InRange (some acc)
    range = subst InRange a (domain q e).acc

    -- most: a bound on tried
    pub method_3
        : (most : ℕ) → ((f : Found) → walked ws (inspect_of q) acc ≡ some f → f.tried ≤ most)
        → IsNearest ws most (inspect_of q) acc (scored_answer ws q)
    method_3 most bound =
        let f = walked_is ws (inspect_of q) acc s in
        rw answer_3 (found-nearest ws (inspect_of q) acc w total range most (walk_of ws (inspect_of q) acc) f (bound _ f))

    pub method_3_small : Small (scored_answer ws q)
    method_3_small = rw answer_3 (found-small ws (inspect_of q) acc w (walk_of ws (inspect_of q) acc) (walked_is ws (inspect_of q) acc s) total range)

  status_14 : (q : Query) → Fourteen q → status_of (scored_answer ws q) ≡ 14
  status_14 q f =
      let i = inspect_of q in
      ap (λ (a : Answer (List ℕ)). status_of a)
      (passes q f.passes ∙ third q.method i f.method ∙ ap (λ (o : Option Float). nearest_of ws i o) f.given)
      ∙ unfold nearest_of in (found-fourteen ws i f.acc).1 f.none_exists

  nearest_14 : (i : Inspect) (o : Option Float) → status_of (nearest_of ws i o) ≡ 14
      → (acc : Float) × (o ≡ some acc) × ((xs : List ℕ) → IsSplit (givens i) (remain i) xs → ⊥)
  unfolding nearest_of
  nearest_14 i none e = absurd (omega arith)
  nearest_14 i (some acc) e = (acc, refl, (found-fourteen ws i acc).0 e)

  method_14 : (m : ℕ) (q : Query) → Domain q → m ≤ 3 → status_of (by_method ws m (inspect_of q)) ≡ 14 → (m ≡ 3) × (status_of (nearest_of ws (inspect_of q) (inspect_of q).acc) ≡ 14)
  unfolding by_method
  method_14 zero q d l e = absurd (omega arith)
  method_14 (suc zero) q d l e = absurd (omega arith)
  method_14 (suc (suc zero)) q d l e = absurd (omega (arith, closest-small q d))
  method_14 (suc (suc (suc n))) q d l e = (omega arith, e)

  only_14 : (q : Query) → status_of (scored_answer ws q) ≡ 14 → Fourteen q
  only_14 q e = go (eqb (stop_of q) 0) refl
    where
      go : (b : Bool) → eqb (stop_of q) 0 ≡ b → Fourteen q
      go true b =
          let p = eqb-true (stop_of q) 0 b in
          let m = method_14 q.method q (domain q p) (domain q p).method (ap status_of (sym (passes q p)) ∙ e) in
          let n = nearest_14 (inspect_of q) (inspect_of q).acc m.1 in
          record { method = m.0; passes = p; acc = n.0; given = n.1; none_exists = n.2 }
      go false b =
          let z : stop_of q ≡ 14 = ap (λ (a : Answer (List ℕ)). status_of a) (sym (halts q (eqb-false (stop_of q) 0 b))) ∙ e in
          absurd (omega (arith, stop_small q))

  pub fourteen : (q : Query) → (status_of (scored_answer ws q) ≡ 14) ↔ Fourteen q
  fourteen q = (only_14 q, status_14 q)

  -- an answer with status 0 passed the shared checks
  pub passed_0 : (q : Query) → status_of (scored_answer ws q) ≡ 0 → stop_of q ≡ 0
  passed_0 q e = go (eqb (stop_of q) 0) refl
    where
      go : (b : Bool) → eqb (stop_of q) 0 ≡ b → stop_of q ≡ 0
      go true b = eqb-true (stop_of q) 0 b
      go false b = ap (λ (a : Answer (List ℕ)). status_of a) (sym (halts q (eqb-false (stop_of q) 0 b))) ∙ e

  -- and, of method 3, 13 and 14
  pub passed_13 : (q : Query) → q.method ≡ 3 → status_of (scored_answer ws q) ≡ 0 → (inspect_of q).acc ≡ none → ⊥
  unfolding nearest_of
  passed_13 q m e a =
      let z : ◌≡◌ {A = ℕ} 13 0 =
      ap status_of (sym (passes q (passed_0 q e) ∙ third q.method (inspect_of q) m ∙ ap (λ (o : Option Float). nearest_of ws (inspect_of q) o) a)) ∙ e in
      omega arith

  pub passed_14
      : (q : Query) (acc : Float) → q.method ≡ 3 → (inspect_of q).acc ≡ some acc → status_of (scored_answer ws q) ≡ 0
      → stops (givens (inspect_of q)) (remain (inspect_of q)) ≡ false
  passed_14 q acc m a e = go (stops (givens (inspect_of q)) (remain (inspect_of q))) refl
    where
      go : (b : Bool) → stops (givens (inspect_of q)) (remain (inspect_of q)) ≡ b → stops (givens (inspect_of q)) (remain (inspect_of q)) ≡ false
      go false s = s
      go true s =
          let n = (nearest-stops (givens (inspect_of q)) (remain (inspect_of q)) refl).0 s in
          let f : status_of (scored_answer ws q) ≡ 14 = status_14 q (record { method = m; passes = passed_0 q e; acc = acc; given = a; none_exists = n }) in
          absurd (omega arith)

  -- "otherwise 0": left of every answer but that of a method 3 query with status 0
  pub left-otherwise : (q : Query) → (q.method ≡ 3 → status_of (scored_answer ws q) ≡ 0 → ⊥) → get_or (values_of (scored_answer ws q)) 7 0 ≡ 0
  unfolding found_of
  left-otherwise q =
      every_answer q (λ (a : Answer (List ℕ)). (q.method ≡ 3 → status_of a ≡ 0 → ⊥) → get_or (values_of a) 7 0 ≡ 0) (λ r n. refl)
      (λ a h n. untried-left a h) (λ n p l z. refl) (λ m acc f n. absurd (n m refl))

-- "Whenever two rows of one such sheet, one of method 2 and one of method 3, are alike in every other field, with exactly two of the
-- five counts missing, and both have status 0, their counts lie equally far from that target": without the exception that the tender
-- allows, as both methods aim at the same T.
pub record EquallyFar (ws : List ℕ) (i : Inspect) (a b : Answer (List ℕ)) : Type 0 where
  pub acc : Float
  pub given : i.acc ≡ some acc
  pub equal : distance_of ws i acc (five_of a) ≡ nat_abs (left_of b)
  pub first : Small a
  pub second : Small b

-- The weights are the standard ones: under own weights a row of method 2 is stopped by 19.
module _ (i : Inspect) (two : length (missing (standard i.classic) (givens i)) ≡ 2) (t : total_hits i ≤ most_hits) where
  abbrev ws : List ℕ
  ws = standard i.classic

  -- of Closest's with two missing
  untried-small : (acc : Float) → status_of (closest_at i acc) ≡ 0 → Small (untried (closest_at i acc))
  untried-small acc c =
      let v = untried-five (closest_at i acc) (closest-six i acc) (untried-status (closest_at i acc) ∙ c) in
      record {
        long = v.1;
        few = rw v.0 (omega (arith, closest-hits i acc two c, remain_and_misses i));
        fits = rw (untried-left (closest_at i acc) (closest-six i acc)) (omega arith);
      }

  both_answer
      : (o : Option Float) → o ≡ i.acc → status_of (exact_of i o) ≡ 0 → status_of (nearest_of ws i o) ≡ 0 → InRange o
      → EquallyFar ws i (exact_of i o) (nearest_of ws i o)
  unfolding exact_of nearest_of found_of
  both_answer none h c n r = absurd (omega arith)
  both_answer (some acc) h c n r = go (stops (givens i) (remain i)) refl n
    where
      go : (b : Bool) → stops (givens i) (remain i) ≡ b → status_of (found_of ws i acc (walked ws i acc)) ≡ 0
          → EquallyFar ws i (untried (closest_at i acc)) (found_of ws i acc (walked ws i acc))
      go true s e =
          let z : status_of (found_of ws i acc none) ≡ 0 = sym (ap (λ (o : Option Found). status_of (found_of ws i acc o)) (stopped-is ws i acc s)) ∙ e in
          absurd (omega arith)
      go false s e =
          let f = walk_of ws i acc in
          let w = standard-weighting i.classic in
          let is = walked_is ws i acc s in
          let n = found-nearest ws i acc w t r f.tried f is (le_refl f.tried) in
          let k : left_of (found_of ws i acc (walked ws i acc)) ≡ points_left ws i acc f.counts =
          ap (λ (o : Option Found). left_of (found_of ws i acc o)) is ∙ n.left ∙ ap (points_left ws i acc) n.counts in
          record {
            acc = acc;
            given = sym h;
            equal = ap (distance_of ws i acc) (untried-five (closest_at i acc) (closest-six i acc) c).0
                ∙ equally_far i acc two f (sym (untried-status (closest_at i acc)) ∙ c) is
                ∙ sym (ap nat_abs k ∙ size_gap (target_of ws i acc) (points ws f.counts));
            first = untried-small acc (sym (untried-status (closest_at i acc)) ∙ c);
            second = subst (λ (o : Option Found). Small (found_of ws i acc o)) (sym is) (found-small ws i acc w f is t r);
          }

pub equally
    : (q r : Query) → q.method ≡ 2 → r.method ≡ 3 → inspect_of q ≡ inspect_of r
    → length (missing (standard q.classic) (givens (inspect_of q))) ≡ 2
    → status_of (scored_answer (standard q.classic) q) ≡ 0 → status_of (scored_answer (standard q.classic) r) ≡ 0
    → EquallyFar (standard q.classic) (inspect_of q) (scored_answer (standard q.classic) q) (scored_answer (standard q.classic) r)
equally q r mq mr same two eq er =
    let i = inspect_of q in
    let ws = standard q.classic in
    let d = domain q (passed_0 ws q eq) in
    let a : scored_answer ws q ≡ exact_of i i.acc = passes ws q (passed_0 ws q eq) ∙ second ws q.method i mq ∙ exact_is q d in
    let b : scored_answer ws r ≡ nearest_of ws i i.acc =
    passes ws r (passed_0 ws r er) ∙ third ws r.method (inspect_of r) mr ∙ ap (λ (j : Inspect). nearest_of ws j j.acc) (sym same) in
    rw (a, b)
    (both_answer i two (total_within q d) i.acc refl (ap status_of (sym a) ∙ eq) (ap status_of (sym b) ∙ er) d.acc)
