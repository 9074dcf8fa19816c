-- How many judgements are missing chooses the candidates, and these are the walk's: of no missing weight, of one, and of more.
use Prim.Native.Nat.{ℕ, zero, suc, ◌+◌, ◌*◌, ◌<◌, ◌≤◌}
use mathlib.Core.List.{List, [], ◌∷◌, head-eq_of_cons-eq}
use mathlib.Core.Path.{◌≡◌, refl, sym, ap, ◌∙◌}
use lib.ListN.{length}
use native.Mathlib.Nat.{mul-le-mul_right}
use native.Mathlib.Omega.{arith}
use Rattle.units.specs.Limits.{most32, most_weight}
use Rattle.score_state.specs.Points.{weights_of}
use Rattle.score_state.specs.Given.{missing, fill}
use Rattle.score_state.specs.declared.HitResults.{HitResults}
use Rattle.units.specs.declared.Points.{Points}
use Rattle.score_state.specs.declared.Weights.{Weights}
use Rattle.inspect.specs.Presence.{has, given, givens_of, lacking}
use Rattle.nearest_laws.specs.Walk.{Best, start, over, better, offer, settle, trial, last_of, candidates, walk, Falling}
use Rattle.nearest_laws.proofs.Near.{last_lt}
use Rattle.nearest_laws.proofs.Places.{slot-good, none_placed, one_placed, five_placed}
use Rattle.nearest_laws.proofs.Search.{three_fresh}
use Rattle.walk.specs.Code.{view, fresh, middle_of, unset, each_n300}
use Rattle.nearest.specs.Candidates.{candidates_of, Walkable}
use Rattle.stride_rows.specs.Strides.{first_of}
use Rattle.plan.specs.Planned.{Planned}
use Rattle.plan.proofs.Missing.{missing-length}
use Rattle.nearest.specs.Walked.{places_of}
use Rattle.walk.specs.declared.Best.{Best as BestCode}
use Rattle.walk.specs.declared.Plan.{Plan}

-- ---- What the walk asks.

first-le : (us : List ℕ) → Falling (suc most_weight) us → first_of 0 us ≤ most_weight
unfolding first_of
first-le [] f = omega arith
first-le (a ∷ bs) f = omega (arith, f.0)

last_less : (M : ℕ) (us : List ℕ) → Falling M us → 2 ≤ length us → last_of 0 us < first_of 0 us
unfolding first_of last_of
last_less M [] f h = absurd (omega arith)
last_less M (a ∷ []) f h = absurd (omega arith)
last_less M (a ∷ (b ∷ bs)) f h = last_lt a b bs f.1.0 f.1.1

module _ {w : Weights} {p : ℕ} {target : Points} {plan : Plan} (pl : Planned w p target plan) (k : HitResults) (R g : ℕ) where
  pub walkable : Falling (suc most_weight) (missing (weights_of w) (givens_of p k)) → g + most_weight * R ≤ most32 → Walkable (lacking p) plan R g
  walkable f l =
      let us = missing (weights_of w) (givens_of p k) in
      let light : plan.a ≤ most_weight = omega (arith, pl.ends.heaviest k, first-le us f) in
      record {
        apart = λ h. omega (arith, pl.ends.heaviest k, pl.ends.lightest k, last_less (suc most_weight) us f (omega (arith, missing-length w p k)));
        slots =
            record {
              n300 = rw (pl.n300 0) (slot-good plan.a plan.c w.n300 (given (has p 2) 0));
              n200 = rw (pl.n200 0) (slot-good plan.a plan.c w.n200 (given (has p 4) 0));
              n100 = rw (pl.n100 0) (slot-good plan.a plan.c w.n100 (given (has p 8) 0));
            };
        light = light;
        points = omega (arith, mul-le-mul_right R light);
      }

  -- the best's counts at their places are the walk's, filled in
  module _ (b : BestCode) where
    two
        : (a d : ℕ) (bs : List ℕ) → missing (weights_of w) (givens_of p k) ≡ a ∷ (d ∷ bs) → Falling a (d ∷ bs)
        → view b ≡ settle plan.target.0 (each_n300 plan (unset R g)) fresh
        → (b.tried ≡ (walk (a ∷ (d ∷ bs)) plan.target.0 R g).tried)
        × (fill (givens_of p k) (walk (a ∷ (d ∷ bs)) plan.target.0 R g).counts ≡ places_of w p k plan b.spread)
    unfolding first_of last_of
    two a d bs e f o =
        let first : plan.a ≡ a = pl.ends.heaviest k ∙ ap (first_of 0) e in
        let last : plan.c ≡ last_of d bs = pl.ends.lightest k ∙ ap (last_of 0) e in
        rw (first, last)
        (five_placed w.n320 w.n300 w.n200 w.n100 w.n50 (given (has p 1) k.n320) (given (has p 2) k.n300)
        (given (has p 4) k.n200) (given (has p 8) k.n100) (given (has p 16) k.n50) a d bs e f plan.target.0 R g b.tried
        b.dist.0 b.spread.top.0 b.spread.n300.0 b.spread.n200.0 b.spread.n100.0 b.spread.rest.0
        (rw (← first, ← last, ← pl.n300 k.n300, ← pl.n200 k.n200, ← pl.n100 k.n100)
        (o
        ∙ three_fresh plan.a plan.c plan.target.0 (middle_of plan.n300) (middle_of plan.n200) (middle_of plan.n100) R g fresh refl)))

    pub chosen
        : (us : List ℕ) → missing (weights_of w) (givens_of p k) ≡ us → Falling (suc most_weight) us
        → view b ≡ settle plan.target.0 (candidates_of (length us) plan R g) fresh
        → (b.tried ≡ (walk us plan.target.0 R g).tried)
        × (fill (givens_of p k) (walk us plan.target.0 R g).counts ≡ places_of w p k plan b.spread)
    unfolding walk candidates settle start over offer better trial first_of
    chosen [] e f o = (
      ap (λ (z : Best). z.tried) o,
      none_placed plan.a plan.c b.spread.top.0 b.spread.rest.0
          (0 ∷ b.spread.n300.0 ∷ b.spread.n200.0 ∷ b.spread.n100.0 ∷ 0 ∷ []) (weights_of w) (givens_of p k) refl refl e,
    )
    chosen (a ∷ []) e f o =
        let top : b.spread.top.0 ≡ R = head-eq_of_cons-eq (ap (λ (z : Best). z.counts) o) in (
          ap (λ (z : Best). z.tried) o,
          rw (← top)
              (one_placed plan.a plan.c b.spread.top.0 b.spread.rest.0
              (0 ∷ b.spread.n300.0 ∷ b.spread.n200.0 ∷ b.spread.n100.0 ∷ 0 ∷ []) (weights_of w) (givens_of p k) refl refl
              (e ∙ ap (λ (z : ℕ). z ∷ []) (sym (pl.ends.heaviest k ∙ ap (first_of 0) e)))),
        )
    chosen (a ∷ (d ∷ bs)) e f o = two a d bs e f.1 o
