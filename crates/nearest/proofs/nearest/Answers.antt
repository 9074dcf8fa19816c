-- `nearest` is the definition's answer.
use Prim.Native.Nat.{ℕ}
use mathlib.Core.Bool.{Bool, not, ◌&&◌, ◌||◌}
use mathlib.Core.Option.{some}
use mathlib.Core.Path.{◌≡◌, refl, sym, ap, ◌∙◌}
use lib.Dec.{eqb, ltb}
use Rattle.score_state.specs.Points.{weights_of, points, counts_of, total_hits}
use Rattle.score_state.specs.Given.{given_hits, given_points}
use Rattle.score_state.specs.declared.HitResults.{HitResults}
use Rattle.score_state.specs.declared.Weights.{Weights}
use Rattle.inspect.specs.Presence.{lacking, unwrap_or_zero}
use Rattle.nearest_laws.specs.Nearest.{stops, nearest, found}
use Rattle.nearest_laws.proofs.Nearest.{stops-room}
use Rattle.nearest.specs.Walked.{walked_of}
use Rattle.nearest.specs.Outcome.{six_of, given_five}
use Rattle.nearest.specs.declared.Five.{Five}
use Rattle.nearest.proofs.Known.{five-given, unwrap_hits, unwrap_points, folded_is}
use Rattle.nearest.proofs.Asked.{capped, falls, fits}
use Rattle.nearest.proofs.nearest.Goals as goal

-- the given counts with 0 for a missing one: their sum and points
module _ (p : ℕ) (g : Five) {six known : HitResults} (e : six ≡ six_of g) (u : known ≡ unwrap_or_zero p six) where
  known-is : known ≡ unwrap_or_zero p (six_of g)
  known-is = rw e at u

  sum-is : {n : ℕ} → n ≡ total_hits known → n ≡ given_hits (given_five p g)
  sum-is h = h ∙ rw known-is (unwrap_hits p (six_of g) refl)

  points-is : (w : Weights) {n : ℕ} → n ≡ points (weights_of w) (counts_of known) → n ≡ given_points (weights_of w) (given_five p g)
  points-is w h = h ∙ rw known-is (unwrap_points w p (six_of g))

  -- check 14
  stopped
      : (r : ℕ) {n : ℕ} {b : Bool} → n ≡ total_hits known → b ≡ (ltb r n || (eqb (lacking p) 0 && not (eqb n r)))
      → b ≡ stops (given_five p g) r
  unfolding stops
  stopped r h t = rw (sum-is h, ← five-given p (six_of g)) at t

pub total_hits-sum-requires : goal.total_hits-sum-requires
total_hits-sum-requires c = rw (known-is _ c.args.given c.from.ensures c.unwrap_or_zero-known.ensures) (capped c.requires)

pub returns-then-no_split-clause-outcome : goal.returns-then-no_split-clause-outcome
unfolding nearest
returns-then-no_split-clause-outcome c =
    let x = c.args in
    rw (sym (stopped x.presence x.given c.from.ensures c.unwrap_or_zero-known.ensures x.remain.0 c.total_hits-sum.ensures c.no_split.ensures) ∙ c.if-no_split.true)

pub points_of-points-requires-clause-fact_2 : goal.points_of-points-requires-clause-fact_2
points_of-points-requires-clause-fact_2 c = rw (known-is _ c.args.given c.from.ensures c.unwrap_or_zero-known.ensures) (capped c.requires)

pub found-requires : goal.found-requires
found-requires c =
    let x = c.args in
    let k = c.unwrap_or_zero-known.ensures in
    let e = c.from.ensures in
    let goes = sym (stopped x.presence x.given e k x.remain.0 c.total_hits-sum.ensures c.no_split.ensures) ∙ c.if-no_split.false in (
      rw (known-is x.presence x.given e k) (falls c.requires),
      rw (points-is x.presence x.given e k x.weights c.points_of-points.ensures, c.sub.ensures, sum-is x.presence x.given e k c.total_hits-sum.ensures)
          (fits c.requires (stops-room (given_five x.presence x.given) x.remain.0 goes)),
    )

pub returns-clause-outcome : goal.returns-clause-outcome
unfolding nearest found walked_of
returns-clause-outcome c =
    let x = c.args in
    let k = c.unwrap_or_zero-known.ensures in
    let e = c.from.ensures in
    let goes = sym (stopped x.presence x.given e k x.remain.0 c.total_hits-sum.ensures c.no_split.ensures) ∙ c.if-no_split.false in
    rw goes
    (ap some
    (rw (
      known-is x.presence x.given e k,
      folded_is x.weights x.presence (six_of x.given),
      c.sub.ensures,
      sum-is x.presence x.given e k c.total_hits-sum.ensures,
      points-is x.presence x.given e k x.weights c.points_of-points.ensures,
    )
    at c.found.ensures))
