-- `closest::Play::optimize_two_missing`: refused by 12 or solved for the two missing weights. Assumes nothing.
use Prim.Native.Nat.{ℕ, ◌+◌, ◌-◌, ◌≤◌}
use mathlib.Core.Path.{◌≡◌, sym, ap, ◌∙◌, subst}
use mathlib.Core.Bool.{Bool, true, false, cond}
use mathlib.Core.List.{List, [], ◌∷◌}
use native.Mathlib.Nat.{le_refl, le_trans}
use native.Mathlib.Omega.{arith}
use borrow.Author.Tests.{ltb-false}
use lib.Dec.{eqb, ltb, lit≤}
use Rattle.units.specs.Limits.{most_hits}
use Rattle.units.proofs.Order.{lt_of}
use Rattle.score_state.specs.Points.{hits, points, standard, weights_of, counts_of, total_hits}
use Rattle.score_state.specs.Given.{given_hits, given_points}
use Rattle.score_state.specs.Answer.{worked, refused}
use Rattle.score_state.specs.declared.HitResults.{HitResults}
use Rattle.score_state.specs.declared.Weights.{Weights}
use Rattle.closest_laws.specs.Closest.{provided, weights, six, plain_optimize_two_missing, by_missing}
use Rattle.closest_laws.proofs.Capped.{weight_is}
use Rattle.closest_laws.proofs.Fills.{Falls, falls_missing, sum_within, two_is}
use Rattle.closest.specs.declared.Play.{Play}
use Rattle.closest.specs.Code.{play_view}
use Rattle.closest.proofs.Play.optimize_two_missing.Goals as goal

-- the given counts' hits, whether they are over remain, and their points
module _ (p : Play) where
  provided-hits : {t n : ℕ} → t ≡ total_hits p.counts → n ≡ t - p.counts.misses → n ≡ given_hits (provided (play_view p))
  unfolding hits given_hits
  provided-hits et en = let w = p.within in omega (arith, et, en, w.zero320, w.zero300, w.zero200, w.zero100, w.zero50)

  sum_is : {ws : Weights} {g : ℕ} → weights_of ws ≡ standard (eqb p.w320 60) → g ≡ points (weights_of ws) (counts_of p.counts)
      → g ≡ points (p.w320 ∷ 60 ∷ 40 ∷ 20 ∷ 10 ∷ []) (counts_of p.counts)
  sum_is ew eg =
      let w = p.within in
      eg ∙ ap (λ (ws : List ℕ). points ws (counts_of p.counts)) (ew ∙ ap (λ (n : ℕ). n ∷ 60 ∷ 40 ∷ 20 ∷ 10 ∷ []) (weight_is _ w.heavy w.top))

  provided-points : {g : ℕ} → g ≡ points (p.w320 ∷ 60 ∷ 40 ∷ 20 ∷ 10 ∷ []) (counts_of p.counts) → g ≡ given_points (weights (play_view p)) (provided (play_view p))
  unfolding points given_points
  provided-points e = let w = p.within in e ∙ rw (w.zero320, w.zero300, w.zero200, w.zero100, w.zero50)

  by_test : (b : Bool) → ltb p.remain.0 (given_hits (provided (play_view p))) ≡ b
      → cond b (refused 12) (worked (six (plain_optimize_two_missing (play_view p)))) ≡ by_missing 2 (play_view p)
  unfolding by_missing
  by_test b e = ap (λ (b : Bool). cond b (refused 12) (worked (six (plain_optimize_two_missing (play_view p))))) (sym e)

pub returns-then-lt : goal.returns-then-lt
returns-then-lt c =
    let p = c.args.self in
    by_test p true (rw (← provided-hits p c.total_hits.ensures c.sub-num_provided.ensures) (sym (lt_of _ _ _ c.lt.ensures) ∙ c.if-lt.true))

pub invariant_of-vars : goal.invariant_of-vars
unfolding hits
invariant_of-vars c =
    let p = c.args.self in
    let n = p.counts in
    let w = p.within in
    let f = subst (λ (ws : List ℕ). Falls p.w320 ws) c.missing_weights-w1.ensures (falls_missing p.w320 (weights (play_view p)) (provided (play_view p)) (le_refl p.w320, (w.heavy, (lit≤ tt, (lit≤ tt, (lit≤ tt, tt)))))) in
    let l : c.sub-num_provided.result.0 ≤ p.remain.0 = ltb-false _ _ (sym (lt_of _ _ _ c.lt.ensures) ∙ c.if-lt.false) in
    let h : n.n320 + n.n300 + n.n200 + n.n100 + n.n50 ≤ most_hits = omega (arith, l, c.sub-num_provided.ensures, c.total_hits.ensures, w.hits) in
    record {
      bounds = (
        le_trans f.0 (le_trans w.top (lit≤ tt)),
        f.1.0,
        omega (arith, c.sub.ensures, w.hits),
        rw (sum_is p c.standard_weights-weights.ensures.0 c.points_of.ensures) (sum_within p.w320 n.n320 n.n300 n.n200 n.n100 n.n50 w.top h),
        w.aim,
      );
    }

pub returns : goal.returns
returns c =
    let p = c.args.self in
    let h = provided-hits p c.total_hits.ensures c.sub-num_provided.ensures in
    ap (λ (r : HitResults). worked (six r)) (two_is (play_view p) c.missing_weights-w1.ensures (c.sub.ensures ∙ ap (λ (n : ℕ). p.remain.0 - n) h) (provided-points p (sum_is p c.standard_weights-weights.ensures.0 c.points_of.ensures)) c.solve_two_vars.ensures c.fill_in.ensures.0 c.fill_in.ensures.1)
    ∙ by_test p false (rw (← h) (sym (lt_of _ _ _ c.lt.ensures) ∙ c.if-lt.false))
