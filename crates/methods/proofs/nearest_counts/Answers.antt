-- `methods::nearest_counts` meets its contract. Assumes nothing.
use Prim.Native.Nat.{ℕ, ◌≤◌}
use mathlib.Core.List.{List, [], ◌∷◌}
use mathlib.Core.Option.{some}
use mathlib.Core.Path.{◌≡◌, refl, sym, ap, subst, ◌∙◌}
use native.Mathlib.Nat.{le_trans}
use native.Mathlib.Omega.{arith}
use lib.IntN.{sub_ℕ}
use mir.Syntax.{w32}
use mir.ValLaws.{to_z-of_z}
use lib.Dec.{T}
use lib.Ieee.{Float, le}
use Rattle.rounding.specs.Round.{zero64, one64}
use Rattle.inspect.specs.Checks.{Domain}
use Rattle.nearest_laws.specs.Nearest.{Weighting, Found}
use Rattle.score_state.specs.declared.Weights.{Weights}
use Rattle.inspect.specs.declared.Query.{Query}
use Rattle.units.specs.Limits.{most_hits, most_points}
use Rattle.points_left.specs.Left.{most31}
use Rattle.score_state.specs.Points.{hits, points, weights_of}
use Rattle.score_state.specs.Accuracy.{Capped}
use Rattle.inspect.specs.Inspect.{inspect_of, givens, total_hits, misses, remain}
use Rattle.inspect.specs.Target.{target}
use Rattle.inspect.proofs.Checked.{total_within}
use Rattle.nearest_laws.specs.Nearest.{nearest}
use Rattle.nearest_laws.proofs.Weighs.{weighting-light}
use Rattle.refusals.specs.declared.Refusal.{Refusal}
use Rattle.refusals.specs.Refusal.{number_of}
use Rattle.score_state.specs.Answer.{refused}
use Rattle.score_state.proofs.Handed.{err_handed}
use Rattle.generated.specs.Generated.{generated_of}
use Rattle.nearest.specs.Outcome.{found_of}
use Rattle.generate_laws.specs.Generate.{target_of}
use Rattle.generate_laws.proofs.Left.{target_within}
use Rattle.generate_laws.proofs.Answered.{found_within, nearest-found, nearest-none}
use borrow.Author.Rules.{rules}
use Rattle.methods.proofs.nearest_counts.Goals as goal

-- w and the total are within their limits
pub target_of-target-requires : goal.target_of-target-requires
target_of-target-requires c =
    let light = weighting-light c.args.weights c.requires.weighting in
    (omega arith, omega arith)

pub nearest-requires : goal.nearest-requires
nearest-requires c =
    let d = c.requires.domain in
    record {
      weighting = c.requires.weighting;
      fits = omega arith;
      n320 = d.n320;
      n300 = d.n300;
      n200 = d.n200;
      n100 = d.n100;
      n50 = d.n50;
    }

-- the target that the walk is given is the query's
target_is
    : (w : Weights) (q : Query) (acc : Float) (total aim : ℕ) → total ≡ total_hits (inspect_of q) → aim ≡ target acc w.n320 total
    → aim ≡ target_of (weights_of w) (inspect_of q) acc
target_is w q acc total aim t e = e ∙ ap (target acc w.n320) t

-- ---- the split that is found
module _ (w : Weights) (q : Query) (acc : Float) (d : Domain q) (low : T (le zero64 acc)) (high : T (le acc one64)) (g : Weighting (weights_of w))
    (aim r m : ℕ) (e : aim ≡ target_of (weights_of w) (inspect_of q) acc) (er : r ≡ remain (inspect_of q))
    (em : (m ≡ misses (inspect_of q)) × (m ≤ total_hits (inspect_of q)))
    (s : Found) (f : some s ≡ nearest (weights_of w) (givens (inspect_of q)) aim r) where
  within : (hits s.counts ≤ most_hits) × (points (weights_of w) s.counts ≤ most_points)
  within = found_within (weights_of w) (inspect_of q) acc aim r m e er em.0 s g f (total_within q d)

  missed : m ≤ most_hits
  missed = le_trans em.1 (total_within q d)

  aimed : aim ≤ most31
  aimed = omega (arith, e, target_within (weights_of w) g (inspect_of q) acc (total_within q d) (low, high))

-- so few hits are within the cap
within_cap
    : (a b c d e m : ℕ) → hits (a ∷ b ∷ c ∷ d ∷ e ∷ []) ≤ most_hits → m ≤ most_hits
    → Capped (record { n320 = a; n300 = b; n200 = c; n100 = d; n50 = e; misses = m })
unfolding hits
within_cap a b c d e m h k = record { n320 = omega arith; n300 = omega arith; n200 = omega arith; n100 = omega arith; n50 = omega arith; misses = omega arith }

pub points_of-points-requires : goal.points_of-points-requires
points_of-points-requires c =
    let x = c.args in
    let p = c.requires in
    let e = target_is x.weights x.q x.acc.value c.total_hits-total.result.0 c.target_of-target.result.0 c.total_hits-total.ensures.0 c.target_of-target.ensures.0 in
    let f = c.in_ok-split.ensures.outcome in
    record {
      fact_1 = weighting-light x.weights p.weighting;
      fact_2 = subst Capped (sym c.of-counts.ensures)
          (within_cap _ _ _ _ _ _
          (within x.weights x.q x.acc.value p.domain x.acc.in_range.0 x.acc.in_range.1 p.weighting c.target_of-target.result.0 c.remain-remain.result.0 c.misses-missed.result.0 e c.remain-remain.ensures.0 c.misses-missed.ensures (found_of c.in_ok-split.split) f).0
          (missed x.weights x.q x.acc.value p.domain x.acc.in_range.0 x.acc.in_range.1 p.weighting c.target_of-target.result.0 c.remain-remain.result.0 c.misses-missed.result.0 e c.remain-remain.ensures.0 c.misses-missed.ensures (found_of c.in_ok-split.split) f));
    }

pub left_of-requires : goal.left_of-requires
left_of-requires c =
    let x = c.args in
    let p = c.requires in
    let e = target_is x.weights x.q x.acc.value c.total_hits-total.result.0 c.target_of-target.result.0 c.total_hits-total.ensures.0 c.target_of-target.ensures.0 in
    let f = c.in_ok-split.ensures.outcome in
    let k : c.points_of-points.result.0 ≡ points (weights_of x.weights) (found_of c.in_ok-split.split).counts = rw c.of-counts.ensures at c.points_of-points.ensures in
    let l : c.points_of-points.result.0 ≤ most31 =
    omega (arith, (within x.weights x.q x.acc.value p.domain x.acc.in_range.0 x.acc.in_range.1 p.weighting c.target_of-target.result.0 c.remain-remain.result.0 c.misses-missed.result.0 e c.remain-remain.ensures.0 c.misses-missed.ensures (found_of c.in_ok-split.split) f).1) in
    let t = aimed x.weights x.q x.acc.value p.domain x.acc.in_range.0 x.acc.in_range.1 p.weighting c.target_of-target.result.0 c.remain-remain.result.0 c.misses-missed.result.0 e c.remain-remain.ensures.0 c.misses-missed.ensures (found_of c.in_ok-split.split) f in
    search rules

pub returns : goal.returns
returns c =
    let x = c.args in
    let e = target_is x.weights x.q x.acc.value c.total_hits-total.result.0 c.target_of-target.result.0 c.total_hits-total.ensures.0 c.target_of-target.ensures.0 in
    rw (c.of-counts.ensures, to_z-of_z w32 c.left_of.result (record { sfits = c.left_of.type_inv }))
    (nearest-found (weights_of x.weights) (inspect_of x.q) x.acc.value c.target_of-target.result.0 c.remain-remain.result.0 c.misses-missed.result.0
    e c.remain-remain.ensures.0 c.misses-missed.ensures.0
    (found_of c.in_ok-split.split) c.left_of.result c.in_ok-split.ensures.outcome
    (c.left_of.ensures ∙ ap (sub_ℕ c.target_of-target.result.0) (rw c.of-counts.ensures at c.points_of-points.ensures)))

pub returns-in_err-split : goal.returns-in_err-split
returns-in_err-split c =
    let x = c.args in
    let f = c.in_err-split.field-0.0 in
    let no = c.in_err-split.ensures in
    ap generated_of (err_handed c.from_residual.result f c.from_residual.ensures.1)
    ∙ ap (λ (r : Refusal). refused (number_of r)) (no.refusal f refl)
    ∙ nearest-none (weights_of x.weights) (inspect_of x.q) x.acc.value c.target_of-target.result.0 c.remain-remain.result.0 c.misses-missed.result.0
    (target_is x.weights x.q x.acc.value c.total_hits-total.result.0 c.target_of-target.result.0 c.total_hits-total.ensures.0 c.target_of-target.ensures.0)
    c.remain-remain.ensures.0 c.misses-missed.ensures.0 no.outcome
