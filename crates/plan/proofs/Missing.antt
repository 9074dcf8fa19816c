-- The missing weights of a presence number, place by place, and how many they are.
use Prim.Native.Nat.{ℕ, zero, suc, ◌+◌, ◌<◌, ◌≤◌}
use mathlib.Core.Bool.{Bool, true, false, cond}
use mathlib.Core.List.{List, [], ◌∷◌}
use mathlib.Core.Option.{Option}
use mathlib.Core.Logic.{◌⊎◌, inl, inr}
use mathlib.Core.Path.{◌≡◌, refl}
use lib.ListN.{length}
use native.Mathlib.Omega.{arith}
use Rattle.inspect.specs.declared.Missing.TheVariants.{Nothing, One, Two, ThreePlus}
use Rattle.score_state.specs.Points.{weights_of}
use Rattle.score_state.specs.Given.{missing}
use Rattle.score_state.specs.declared.HitResults.{HitResults}
use Rattle.score_state.specs.declared.Weights.{Weights}
use Rattle.inspect.specs.Presence.{given, givens_of, lacking, lacks, missing_of}
use Rattle.inspect.specs.declared.Missing.{Missing}
use Rattle.nearest_laws.specs.Walk.{last_of}
use Rattle.stride_rows.specs.Strides.{first_of}

pub first_step : (d w : ℕ) (b : Bool) (n : ℕ) (ws : List ℕ) (gs : List (Option ℕ))
    → first_of d (missing (w ∷ ws) (given b n ∷ gs)) ≡ cond b (first_of d (missing ws gs)) w
unfolding missing first_of
first_step d w true n ws gs = refl
first_step d w false n ws gs = refl

pub first-none : (d : ℕ) → first_of d (missing [] []) ≡ d
unfolding missing first_of
first-none d = refl

pub last_step : (d w : ℕ) (b : Bool) (n : ℕ) (ws : List ℕ) (gs : List (Option ℕ))
    → last_of d (missing (w ∷ ws) (given b n ∷ gs)) ≡ last_of (cond b d w) (missing ws gs)
unfolding missing last_of
last_step d w true n ws gs = refl
last_step d w false n ws gs = refl

pub last_none : (d : ℕ) → last_of d (missing [] []) ≡ d
unfolding missing last_of
last_none d = refl

-- ---- How many are missing.

length_step : (w : ℕ) (b : Bool) (n : ℕ) (ws : List ℕ) (gs : List (Option ℕ))
    → length (missing (w ∷ ws) (given b n ∷ gs)) ≡ lacks b + length (missing ws gs)
unfolding missing
length_step w true n ws gs = omega arith
length_step w false n ws gs = omega arith

pub missing-length : (w : Weights) (p : ℕ) (g : HitResults) → length (missing (weights_of w) (givens_of p g)) ≡ lacking p
unfolding lacking missing
missing-length w p g = simp length_step refl

-- ---- The arms of a match on how many are missing.

-- the last two cases
pub two_missing : (n : ℕ) (m : Missing) → m ≡ missing_of n → m ≡ Two ⊎ m ≡ ThreePlus → 2 ≤ n
two_missing zero m e o = absurd (none m e o)
  where
    none : (m : Missing) → m ≡ Nothing → m ≡ Two ⊎ m ≡ ThreePlus → ⊥
    none m e (inl p) = cc
    none m e (inr p) = cc
two_missing (suc zero) m e o = absurd (one m e o)
  where
    one : (m : Missing) → m ≡ One → m ≡ Two ⊎ m ≡ ThreePlus → ⊥
    one m e (inl p) = cc
    one m e (inr p) = cc
two_missing (suc (suc n)) m e o = omega arith

-- the cases but `ThreePlus`
pub few-missing : (n : ℕ) (m : Missing) → m ≡ missing_of n → (m ≡ ThreePlus → ⊥) → n < 3
few-missing zero m e o = omega arith
few-missing (suc zero) m e o = omega arith
few-missing (suc (suc zero)) m e o = omega arith
few-missing (suc (suc (suc n))) m e o = absurd (o e)
