-- No u32 or i64 of the Rust's Closest leaves its type on document 01's domain, but for line 240's difference, and that exactly where
-- 12 is told. Assumes nothing.
use Prim.Native.Nat.{ℕ, ◌+◌, ◌-◌, ◌*◌, ◌≤◌, ◌<◌}
use mathlib.Core.Path.{◌≡◌, refl, sym, ap, ◌∙◌}
use mathlib.Core.Logic.{◌↔◌, ◌⊎◌, inl, inr}
use mathlib.Core.Bool.{Bool, true, false, cond}
use mathlib.Core.List.{List, [], ◌∷◌, ◌++◌}
use mathlib.Core.Option.{Option, none, some, none-ne-some}
use native.Mathlib.Nat.{le_trans, le_of_eq, mul-le-mul}
use native.Mathlib.Omega.{arith}
use borrow.Author.Tests.{eq-eqb, ne_eqb, lt-ltb, ltb-true, ltb-false}
use lib.Dec.{T, ltb, eqb}
use lib.IntN.{pos, negsuc, nat_abs, ◌-ℤ◌}
use lib.Ieee.{Float, le}
use Rattle.rounding.specs.Round.{zero64, one64}
use Rattle.score_state.specs.Points.{hits, perfect_weight}
use Rattle.score_state.specs.Given.{or, given_hits, given_points}
use Rattle.score_state.proofs.Caps.{perfect_within}
use Rattle.inspect.specs.Inspect.{BestCase, Inspect, capped_misses, inspect_of, givens, shortened, total_hits, misses, remain}
use Rattle.score_state.specs.Answer.{Answer, worked, refused, status_of}
use Rattle.inspect.specs.Checks.{Domain}
use Rattle.inspect.specs.declared.Query.{Query}
use Rattle.inspect.proofs.Checked.{misses-le, remain_and_misses, both_within, total_within}
use Rattle.closest_laws.specs.Closest.{six}
use Rattle.closest_laws.proofs.Fills.{perfect-heavy}
use Rattle.closest_f64.specs.Rust.{Args, options, weighting, match_two_missing, solve_two_vars, optimize_two_missing, optimize_three_plus_missing, count, optimize_hitresults, match_given, target_numerator, args_of, closest_at_f64}
use Rattle.closest_f64.specs.Sizes.{Step, u32, fits, first_over, sums, weighted, flatten, overfull, steps_optimize_two_missing, steps_optimize_three_plus_missing, steps_optimize_hitresults, clamped, steps_match_given, total_hits_of, computed}
use Rattle.closest_f64.proofs.Closest.{aim-le as target_within, aim_same as target_is}
use Rattle.closest_f64.proofs.Fit.{Fits, Fit, u32-is, u32_minus, fit_append, fit_cond, past, none_over, clamped_fit}
use Rattle.closest_f64.proofs.Lines.{Within, two_over, two_fit, three_fit}

-- ---- an answer beside what it computes: 12 and s is the first that does not fit, or another answer and all fit
abbrev Beside : Answer (List ℕ) → List Step → Step → Type 0
Beside a ss s = ((a ≡ refused 12) × (first_over ss ≡ some s)) ⊎ ((a ≡ refused 12 → ⊥) × Fit ss)

worked_not_12 : (xs : List ℕ) → worked xs ≡ refused 12 → ⊥
worked_not_12 xs e = let z : ◌≡◌ {A = ℕ} 0 12 = ap status_of e in omega arith

prefix : (a : Answer (List ℕ)) (xs ss : List Step) (s : Step) → Fit xs → Beside a ss s → Beside a (xs ++ ss) s
prefix a xs ss s h (inl t) = inl (t.0, past xs ss h ∙ t.1)
prefix a xs ss s h (inr t) = inr (t.0, fit_append xs ss h t.1)

module _ (p : Args) (k : Within p) where
  two_beside : Beside (optimize_two_missing p) (steps_optimize_two_missing p) (overfull p.remain (options p))
  unfolding optimize_two_missing
  two_beside = go (ltb p.remain (given_hits (options p))) refl _
    where
      go : (t : Bool) → ltb p.remain (given_hits (options p)) ≡ t → (xs : List ℕ)
          → Beside (cond t (refused 12) (worked xs)) (steps_optimize_two_missing p) (overfull p.remain (options p))
      go true e xs = inl (refl, two_over p k (ltb-true p.remain (given_hits (options p)) e))
      go false e xs = inr (worked_not_12 xs, two_fit p k (ltb-false p.remain (given_hits (options p)) e))

  optimize_beside : Beside (optimize_hitresults p) (steps_optimize_hitresults p) (overfull p.remain (options p))
  unfolding optimize_hitresults steps_optimize_hitresults
  optimize_beside = go (eqb (count (options p)) 3)
    where
      go : (t : Bool)
          → Beside (cond t (optimize_two_missing p) (worked (six (optimize_three_plus_missing p)))) (cond t (steps_optimize_two_missing p) (steps_optimize_three_plus_missing p)) (overfull p.remain (options p))
      go true = two_beside
      go false = inr (worked_not_12 _, three_fit p k)

  arm : (xs : List ℕ) (line : ℕ) (gs : List ℕ) → Beside (worked xs) (clamped line p.remain [] gs) (overfull p.remain (options p))
  unfolding hits
  arm xs line gs = inr (worked_not_12 xs, clamped_fit line p.remain [] gs (omega arith) (omega (arith, k.few)))

  match_beside : (a b c d e : Option ℕ) → Beside (match_given p a b c d e) (steps_match_given p a b c d e) (overfull p.remain (options p))
  unfolding match_given steps_match_given
  match_beside (some a) (some b) (some c) (some d) (some e) = arm _ 49 (a ∷ b ∷ c ∷ d ∷ [])
  match_beside (some a) (some b) (some c) (some d) none = arm _ 67 (a ∷ b ∷ c ∷ d ∷ [])
  match_beside (some a) (some b) (some c) none (some e) = arm _ 83 (a ∷ b ∷ c ∷ e ∷ [])
  match_beside (some a) (some b) none (some d) (some e) = arm _ 99 (a ∷ b ∷ d ∷ e ∷ [])
  match_beside (some a) none (some c) (some d) (some e) = arm _ 115 (a ∷ c ∷ d ∷ e ∷ [])
  match_beside none (some b) (some c) (some d) (some e) = arm _ 131 (b ∷ c ∷ d ∷ e ∷ [])
  match_beside (some a) (some b) (some c) none none = optimize_beside
  match_beside (some a) (some b) none (some d) none = optimize_beside
  match_beside (some a) (some b) none none e = optimize_beside
  match_beside (some a) none (some c) (some d) none = optimize_beside
  match_beside (some a) none (some c) none e = optimize_beside
  match_beside (some a) none none d e = optimize_beside
  match_beside none (some b) (some c) (some d) none = optimize_beside
  match_beside none (some b) (some c) none e = optimize_beside
  match_beside none (some b) none d e = optimize_beside
  match_beside none none c d e = optimize_beside

-- ---- the lines before the match
from_the_first : (i : Inspect) (acc : Float) → shortened i.passed i.objects + shortened i.holds_passed i.holds ≤ 200_000 → total_hits i ≤ 200_000
    → perfect_weight i.classic * total_hits i ≤ 12_200_000 → Within (args_of i acc)
    → Beside (closest_at_f64 i acc) (computed i acc) (overfull (remain i) (givens i))
unfolding closest_at_f64 computed total_hits_of args_of
from_the_first i acc whole total points k = prefix _ (total_hits_of i) _ _ (fit_cond i.classic [] _ tt (u32-is (omega arith), tt)) (go (eqb (remain i) 0))
  where
    at_20 : Fits (u32 20 (pos (total_hits i) -ℤ pos (misses i)))
    at_20 = u32_minus (total_hits i) (misses i) (misses-le i) (omega arith)

    rest : List Step
    rest = steps_match_given (args_of i acc) i.n320 i.n300 i.n200 i.n100 i.n50

    go : (t : Bool)
        → Beside (cond t (worked (0 ∷ 0 ∷ 0 ∷ 0 ∷ 0 ∷ misses i ∷ [])) (match_given (args_of i acc) i.n320 i.n300 i.n200 i.n100 i.n50))
        (u32 20 (pos (total_hits i) -ℤ pos (misses i)) ∷ cond t [] (u32 37 (pos (perfect_weight i.classic * total_hits i)) ∷ rest))
        (overfull (remain i) (givens i))
    go true = inr (worked_not_12 _, (at_20, tt))
    go false =
        prefix _ (u32 20 (pos (total_hits i) -ℤ pos (misses i)) ∷ u32 37 (pos (perfect_weight i.classic * total_hits i)) ∷ []) rest _
        (at_20, (u32-is (omega arith), tt)) (match_beside (args_of i acc) k i.n320 i.n300 i.n200 i.n100 i.n50)

-- ---- the theorems
module _ (q : Query) (acc : Float) (d : Domain q) (h : T (le zero64 acc)) (k : T (le acc one64)) where
  abbrev i : Inspect
  i = inspect_of q

  within : Within (args_of i acc)
  unfolding args_of
  within = record {
    heavy = perfect-heavy i.classic;
    top = perfect_within i.classic;
    aim = le_trans (le_of_eq (ap nat_abs (target_is q acc d h k))) (target_within q acc d h k);
    few = le_trans (le_of_eq (remain_and_misses i)) (total_within q d);
    n320 = d.n320;
    n300 = d.n300;
    n200 = d.n200;
    n100 = d.n100;
    n50 = d.n50;
  }

  beside : Beside (closest_at_f64 i acc) (computed i acc) (overfull (remain i) (givens i))
  beside =
      from_the_first i acc (both_within i d.objects d.holds) (total_within q d)
      (mul-le-mul (perfect_within i.classic) (total_within q d)) within

  -- a build with overflow checks does not stop where another answer than 12 is told
  pub no_overflow : (closest_at_f64 i acc ≡ refused 12 → ⊥) → first_over (computed i acc) ≡ none
  no_overflow n = go beside
    where
      go : Beside (closest_at_f64 i acc) (computed i acc) (overfull (remain i) (givens i)) → first_over (computed i acc) ≡ none
      go (inl t) = absurd (n t.0)
      go (inr t) = none_over (computed i acc) t.1

  -- and where 12 is told it stops at line 240, there first and for that only
  pub twelve_is_the_overflow : (closest_at_f64 i acc ≡ refused 12) ↔ (first_over (computed i acc) ≡ some (overfull (remain i) (givens i)))
  twelve_is_the_overflow = (λ e. go beside e, λ e. back beside e)
    where
      go : Beside (closest_at_f64 i acc) (computed i acc) (overfull (remain i) (givens i)) → closest_at_f64 i acc ≡ refused 12
          → first_over (computed i acc) ≡ some (overfull (remain i) (givens i))
      go (inl t) e = t.1
      go (inr t) e = absurd (t.0 e)

      back : Beside (closest_at_f64 i acc) (computed i acc) (overfull (remain i) (givens i)) → first_over (computed i acc) ≡ some (overfull (remain i) (givens i))
          → closest_at_f64 i acc ≡ refused 12
      back (inl t) e = t.0
      back (inr t) e = absurd (none-ne-some (overfull (remain i) (givens i)) (sym (none_over (computed i acc) t.1) ∙ e))

-- ---- with hits left and exactly two of the five missing: 12 is told exactly where line 240's difference is negative
optimized : (p : Args) (a b c d e : Option ℕ) → count (a ∷ b ∷ c ∷ d ∷ e ∷ []) ≡ 3 → match_given p a b c d e ≡ optimize_hitresults p
unfolding match_given count
optimized p (some a) (some b) (some c) (some d) (some e) h = absurd (omega arith)
optimized p (some a) (some b) (some c) (some d) none h = absurd (omega arith)
optimized p (some a) (some b) (some c) none (some e) h = absurd (omega arith)
optimized p (some a) (some b) none (some d) (some e) h = absurd (omega arith)
optimized p (some a) none (some c) (some d) (some e) h = absurd (omega arith)
optimized p none (some b) (some c) (some d) (some e) h = absurd (omega arith)
optimized p (some a) (some b) (some c) none none h = refl
optimized p (some a) (some b) none (some d) none h = refl
optimized p (some a) (some b) none none e h = refl
optimized p (some a) none (some c) (some d) none h = refl
optimized p (some a) none (some c) none e h = refl
optimized p (some a) none none d e h = refl
optimized p none (some b) (some c) (some d) none h = refl
optimized p none (some b) (some c) none e h = refl
optimized p none (some b) none d e h = refl
optimized p none none c d e h = refl

pub twelve_is_negative : (i : Inspect) (acc : Float) → 0 < remain i → count (givens i) ≡ 3
    → (closest_at_f64 i acc ≡ refused 12) ↔ (remain i < given_hits (givens i))
unfolding closest_at_f64 args_of optimize_hitresults optimize_two_missing
twelve_is_negative i acc r two = (λ e. go (ltb (remain i) (given_hits (givens i))) refl (sym told ∙ e), λ l. told ∙ ap (λ (t : Bool). cond t (refused 12) (worked counts)) (lt-ltb (remain i) (given_hits (givens i)) l))
  where
    p : Args
    p = args_of i acc

    answer : Answer (List ℕ)
    answer = match_given p i.n320 i.n300 i.n200 i.n100 i.n50

    counts : List ℕ
    counts =
        let solve = solve_two_vars (remain i - given_hits (givens i)) (p.target_numerator -ℤ pos (given_points (weighting p) (givens i))) in
        six (match_two_missing solve p.w320 p.misses p.n320 p.n300 p.n200 p.n100 p.n50)

    told : closest_at_f64 i acc ≡ cond (ltb (remain i) (given_hits (givens i))) (refused 12) (worked counts)
    told =
        ap (λ (t : Bool). cond t (worked (0 ∷ 0 ∷ 0 ∷ 0 ∷ 0 ∷ misses i ∷ [])) answer) (ne_eqb (remain i) 0 (λ (z : remain i ≡ 0). omega arith))
        ∙ optimized p i.n320 i.n300 i.n200 i.n100 i.n50 two
        ∙ ap (λ (t : Bool). cond t (optimize_two_missing p) (worked (six (optimize_three_plus_missing p)))) (eq-eqb (count (givens i)) 3 two)

    go : (t : Bool) → ltb (remain i) (given_hits (givens i)) ≡ t → cond t (refused 12) (worked counts) ≡ refused 12 → remain i < given_hits (givens i)
    go true e f = ltb-true (remain i) (given_hits (givens i)) e
    go false e f = absurd (worked_not_12 counts f)

-- the smallest input that 12 is told of: one object, n320 = 2, n300 = n200 = 0, and n100 and n50 missing. 1 - 2 is -1.
smallest : Inspect
smallest = record {
  objects = 1;
  holds = 0;
  passed = none;
  holds_passed = none;
  classic = true;
  priority = BestCase;
  n320 = some 2;
  n300 = some 0;
  n200 = some 0;
  n100 = none;
  n50 = none;
  misses = none;
  acc = some one64;
}

stops-at_240 : first_over (computed smallest one64) ≡ some (u32 240 (negsuc 0))
unfolding smallest first_over fits computed total_hits_of shortened total_hits capped_misses misses remain steps_match_given args_of count steps_optimize_hitresults steps_optimize_two_missing weighted sums flatten given_hits or
stops-at_240 = refl
