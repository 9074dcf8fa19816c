-- Document 02, L9: "to the charts in order". What is said of a relay's charts, and of the numbers that an output holds of them, is listed by
-- the chart's place, from 0.
use Rattle.std.specs.Prelude.{ℕ, zero, suc, List, [], ◌∷◌}

-- f k, f (k + 1), ..: n values
unfoldable pub consecutive : {A : Type 0} → (ℕ → A) → ℕ → ℕ → List A
consecutive f k zero = []
consecutive f k (suc n) = f k ∷ consecutive f (suc k) n
