-- `scored_by` from its parts, for the proofs of the calls. Assumes nothing.
use Prim.Native.Nat.{ℕ, zero, suc, ◌<◌, ◌≤◌}
use mathlib.Core.Path.{◌≡◌, refl, sym, ap, ap₂, ◌∙◌}
use mathlib.Core.Option.{none, some}
use native.Mathlib.Omega.{arith}
use borrow.Author.Tests.{ne_eqb}
use lib.Dec.{eqb}
use lib.Ieee.{Float}
use lib.IntN.{ℤ, sub_ℕ}
use mathlib.Core.List.{List, [], ◌∷◌, ◌++◌}
use Rattle.units.specs.Limits.{most_hits, most_points}
use Rattle.score_state.specs.Points.{hits, points}
use Rattle.score_state.specs.declared.HitResults.{HitResults}
use Rattle.inspect.specs.Inspect.{Inspect, inspect_of, givens, total_hits, misses, remain}
use Rattle.inspect.specs.Checks.{stop_of}
use Rattle.score_state.specs.Answer.{Answer, refused, worked, unless}
use Rattle.points_left.specs.Left.{bits_of}
use Rattle.inspect.specs.declared.Query.{Query}
use Rattle.ignore_acc.specs.IgnoreAcc.{ignore_acc}
use Rattle.fast.specs.Fast.{with_acc, by_acc}
use Rattle.fast.proofs.Steps.{fast-given, fast_absent}
use Rattle.closest_f64.specs.Rust.{closest_at_f64}
use Rattle.inspect.proofs.Checked.{remain_and_misses}
use Rattle.nearest_laws.specs.Nearest.{Weighting, Found, nearest}
use Rattle.nearest_laws.proofs.Nearest.{nearest_split}
use Rattle.generate_laws.specs.Generate.{counted, untried, by_method, closest_of, target_of, found_of, nearest_of, scored_by}
use Rattle.generate_laws.proofs.Left.{points_within}

module _ (ws : List ℕ) where
  -- a shared check stops the query by n
  pub halted : (method : ℕ) (q : Query) (n : ℕ) → n ≡ stop_of q → 0 < n → refused n ≡ scored_by ws method q
  unfolding scored_by
  halted method q n e h = rw (← e, ne_eqb n 0 (λ (z : n ≡ 0). omega arith))

  -- none does
  pub worked_by : (method : ℕ) (q : Query) (a : Answer (List ℕ)) → 0 ≡ stop_of q → a ≡ by_method ws method (inspect_of q) → a ≡ scored_by ws method q
  unfolding scored_by
  worked_by method q a e k = k ∙ ap (λ (n : ℕ). unless (eqb n 0) n (by_method ws method (inspect_of q))) e

  -- method 3, and what check 8 stops
  third : (method : ℕ) (i : Inspect) → 3 ≤ method → nearest_of ws i i.acc ≡ by_method ws method i
  unfolding by_method
  third zero i h = absurd (omega arith)
  third (suc zero) i h = absurd (omega arith)
  third (suc (suc zero)) i h = absurd (omega arith)
  third (suc (suc (suc m))) i h = refl

  -- ---- the methods at a given accuracy
  pub fast-at : (i : Inspect) (acc : Float) (r : HitResults) → i.acc ≡ some acc → r ≡ with_acc acc i → counted r ≡ by_method ws 1 i
  unfolding by_method
  fast-at i acc r e h = ap counted (fast-given i acc r e h)

  pub closest-at : (i : Inspect) (acc : Float) (a : Answer (List ℕ)) → i.acc ≡ some acc → a ≡ untried (closest_at_f64 i acc) → a ≡ by_method ws 2 i
  unfolding by_method closest_of
  closest-at i acc a e h = h ∙ ap (closest_of i) (sym e)

  pub nearest-at
      : (method : ℕ) (i : Inspect) (acc : Float) (a : Answer (List ℕ)) → 3 ≤ method → i.acc ≡ some acc → a ≡ nearest_of ws i (some acc) → a ≡ by_method ws method i
  nearest-at method i acc a l e h = h ∙ ap (nearest_of ws i) (sym e) ∙ third method i l

  -- ---- and without one: methods 0 to 2 are IgnoreAccuracy, and 13
  pub ignored : (method : ℕ) (i : Inspect) → method < 3 → i.acc ≡ none → counted (ignore_acc i) ≡ by_method ws method i
  unfolding by_method closest_of by_acc
  ignored zero i l e = refl
  ignored (suc zero) i l e = ap counted (fast_absent i (ignore_acc i) e refl)
  ignored (suc (suc zero)) i l e = ap (closest_of i) (sym e)
  ignored (suc (suc (suc m))) i l e = absurd (omega arith)

  pub acc-missing : (method : ℕ) (i : Inspect) → 3 ≤ method → i.acc ≡ none → refused 13 ≡ by_method ws method i
  unfolding nearest_of
  acc-missing method i l e = ap (nearest_of ws i) (sym e) ∙ third method i l

-- ---- Nearest's answer at an accuracy, from what its walk was given
module _ (ws : List ℕ) (i : Inspect) (acc : Float) (T R m : ℕ) (et : T ≡ target_of ws i acc) (er : R ≡ remain i) (em : m ≡ misses i) where
  same-walk : nearest ws (givens i) T R ≡ nearest ws (givens i) (target_of ws i acc) (remain i)
  same-walk = rw (et, er)

  pub nearest-found
      : (f : Found) (left : ℤ) → some f ≡ nearest ws (givens i) T R → left ≡ sub_ℕ T (points ws f.counts)
      → worked (f.counts ++ (m ∷ f.tried ∷ bits_of left ∷ [])) ≡ nearest_of ws i (some acc)
  unfolding nearest_of found_of
  nearest-found f left e el =
      ap₂ (λ (x : ℕ) (y : ℤ). worked (f.counts ++ (x ∷ f.tried ∷ bits_of y ∷ []))) em (el ∙ ap (λ (t : ℕ). sub_ℕ t (points ws f.counts)) et)
      ∙ ap (found_of ws i acc) (e ∙ same-walk)

  -- what is found has no more hits and no more points than a chart
  pub found_within
      : (f : Found) → Weighting ws → some f ≡ nearest ws (givens i) T R → total_hits i ≤ most_hits
      → (hits f.counts ≤ most_hits) × (points ws f.counts ≤ most_points)
  found_within f w e t =
      let s = nearest_split ws (givens i) (target_of ws i acc) (remain i) f w refl (sym (e ∙ same-walk)) in
      let h : hits f.counts ≤ most_hits = omega (arith, s.sums, remain_and_misses i) in
      (h, points_within ws w f.counts h)

  pub nearest-none : none ≡ nearest ws (givens i) T R → refused 14 ≡ nearest_of ws i (some acc)
  unfolding nearest_of found_of
  nearest-none e = ap (found_of ws i acc) (e ∙ same-walk)
