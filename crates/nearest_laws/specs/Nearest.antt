-- Document 01, Nearest: the generator's answer from the weights, the optional counts of the query (both from n320 to n50), the
-- rounded target T and the remaining hits; and check 14.
use Rattle.std.specs.Prelude.{ℕ, ◌-◌, ◌<◌, ◌≤◌, Bool, true, false, not, cond, ◌&&◌, ◌||◌, List, [], ◌∷◌, ◌≡◌, refl, eqb, ltb, leb}
use Rattle.std.proofs.Math.Option.{Option, none, some}
use Rattle.std.proofs.Common.{arith}
use Rattle.score_state.specs.Points.{standard}
use Rattle.score_state.specs.Given.{missing, given_hits, given_points, fill}
use Rattle.nearest_laws.specs.Walk.{walk}

-- The weights that the walk is proved for: the two standard weightings, and a league's own (document 02, L4).
pub record Weighting (ws : List ℕ) : Type 0 where
  pub n320 : ℕ
  pub n300 : ℕ
  pub n200 : ℕ
  pub n100 : ℕ
  pub n50 : ℕ
  pub five : ws ≡ n320 ∷ n300 ∷ n200 ∷ n100 ∷ n50 ∷ []
  pub perfect : n300 ≤ n320
  pub great : n200 < n300
  pub good : n100 < n200
  pub ok : n50 < n100
  pub meh : 1 ≤ n50
  pub most : n320 ≤ 100

pub standard-weighting : (classic : Bool) → Weighting (standard classic)
standard-weighting true =
    record { n320 = 60; n300 = 60; n200 = 40; n100 = 20; n50 = 10; five = refl; perfect = omega arith; great = omega arith; good = omega arith; ok = omega arith; meh = omega arith; most = omega arith }
standard-weighting false =
    record { n320 = 61; n300 = 60; n200 = 40; n100 = 20; n50 = 10; five = refl; perfect = omega arith; great = omega arith; good = omega arith; ok = omega arith; meh = omega arith; most = omega arith }

-- The same as a test. Document 02, L4: "The first two may be equal ..; otherwise weights fall strictly, from at most 100 to at least 1."
unfoldable pub weighs : List ℕ → Bool
weighs [] = false
weighs (a ∷ []) = false
weighs (a ∷ (b ∷ [])) = false
weighs (a ∷ (b ∷ (c ∷ []))) = false
weighs (a ∷ (b ∷ (c ∷ (d ∷ [])))) = false
weighs (a ∷ (b ∷ (c ∷ (d ∷ (e ∷ []))))) = leb a 100 && leb b a && ltb c b && ltb d c && ltb e d && leb 1 e
weighs (a ∷ (b ∷ (c ∷ (d ∷ (e ∷ (f ∷ ws)))))) = false

-- Step 1: "If classic with n320 and n300 both missing, n300 is 0 and counts as given. Priority plays no part." Of the standard
-- weightings classic is the one whose first two weights are equal; of own weights document 02, L4, says: "The first two may be equal, and
-- if both are missing they fold as the classic pair did".
unfoldable pub fold : List ℕ → List (Option ℕ) → List (Option ℕ)
fold [] gs = gs
fold (w ∷ []) gs = gs
fold (w ∷ (v ∷ ws)) [] = []
fold (w ∷ (v ∷ ws)) (some n ∷ gs) = some n ∷ gs
fold (w ∷ (v ∷ ws)) (none ∷ []) = none ∷ []
fold (w ∷ (v ∷ ws)) (none ∷ (some n ∷ gs)) = none ∷ (some n ∷ gs)
fold (w ∷ (v ∷ ws)) (none ∷ (none ∷ gs)) = cond (eqb w v) (none ∷ (some 0 ∷ gs)) (none ∷ (none ∷ gs))

unfoldable pub all_given : List (Option ℕ) → Bool
all_given [] = true
all_given (none ∷ gs) = false
all_given (some n ∷ gs) = all_given gs

-- check 14: "given sum over remain, or five given and sum not remain"
unfoldable pub stops : List (Option ℕ) → ℕ → Bool
stops gs remain = ltb remain (given_hits gs) || (all_given gs && not (eqb (given_hits gs) remain))

-- five counts, and how many candidates the walk tried
pub record Found : Type 0 where
  pub counts : List ℕ
  pub tried : ℕ

-- Steps 2 to 4: "R = remain − given counts". "With all five given and right, tried is 0 and they are the answer": the walk of no
-- weights, with nothing to fill in.
unfoldable pub found : List ℕ → List (Option ℕ) → ℕ → ℕ → Found
found ws gs T remain =
    let hs = fold ws gs in
    let best = walk (missing ws hs) T (remain - given_hits gs) (given_points ws gs) in
    record { counts = fill hs best.counts; tried = best.tried }

-- the answer, or none where check 14 stops the query
unfoldable pub nearest : List ℕ → List (Option ℕ) → ℕ → ℕ → Option Found
nearest ws gs T remain = let r = found ws gs T remain in cond (stops gs remain) none (some r)
