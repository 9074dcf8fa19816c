-- `all_missing`: no count is given, so the walk has all hits to give and no points before it starts.
use Prim.Native.Nat.{ℕ}
use mathlib.Core.List.{List, [], ◌∷◌}
use mathlib.Core.Option.{Option, none}
use mathlib.Core.Path.{◌≡◌, ap, ◌∙◌}
use native.Mathlib.Nat.{sub-zero, mul-zero}
use native.Mathlib.Omega.{arith}
use Rattle.score_state.specs.Points.{weights_of}
use Rattle.score_state.specs.Given.{or, given_hits, given_points}
use Rattle.score_state.specs.declared.Weights.{Weights}
use Rattle.inspect.specs.Presence.{unwrap_or_zero}
use Rattle.nearest_laws.specs.Nearest.{fold, found}
use Rattle.nearest.specs.Walked.{walked_of}
use Rattle.nearest.specs.Outcome.{six_of, Ask}
use Rattle.nearest.specs.declared.Five.{Five}
use Rattle.nearest.proofs.Known.{folded_is}
use Rattle.nearest.proofs.Asked.{falls}
use Rattle.nearest.proofs.all_missing.Goals as goal

abbrev five : List (Option ℕ)
five = none ∷ none ∷ none ∷ none ∷ none ∷ []

abbrev zeros : Five
zeros = record { n320 = record { 0 = 0 }; n300 = record { 0 = 0 }; n200 = record { 0 = 0 }; n100 = record { 0 = 0 }; n50 = record { 0 = 0 } }

walked : (w : Weights) (T R : ℕ) → walked_of (weights_of w) (fold (weights_of w) five) T R 0 ≡ found (weights_of w) five T R
unfolding walked_of found given_hits given_points or
walked w T R = simp (sub-zero, mul-zero)

pub found-requires : goal.found-requires
unfolding unwrap_or_zero or
found-requires c =
    let x = c.args in
    let ask : Ask x.weights 0 zeros x.remain = record { weighting = c.requires.0; fits = c.requires.1; n320 = omega arith; n300 = omega arith; n200 = omega arith; n100 = omega arith; n50 = omega arith } in
    (falls ask, omega (arith, c.requires.1))

pub returns : goal.returns
unfolding unwrap_or_zero
returns c =
    let x = c.args in
    c.found.ensures
    ∙ ap (λ (gs : List (Option ℕ)). walked_of (weights_of x.weights) gs x.target.0 x.remain.0 0) (folded_is x.weights 0 (six_of zeros))
    ∙ walked x.weights x.target.0 x.remain.0
