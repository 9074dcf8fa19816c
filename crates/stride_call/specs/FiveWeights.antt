-- The call nuqsillay_strides of include/nuqsillay.h takes two sets of weights as ten numbers.
use Rattle.std.specs.Prelude.{ℕ, List, [], ◌∷◌}

-- five weights, from n320 to n50
abbrev pub five_weights : ℕ → ℕ → ℕ → ℕ → ℕ → List ℕ
five_weights w320 w300 w200 w100 w50 = w320 ∷ w300 ∷ w200 ∷ w100 ∷ w50 ∷ []
