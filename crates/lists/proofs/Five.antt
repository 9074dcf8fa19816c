-- A list of five.
-- Assumes nothing.
use Prim.Native.Nat.{ℕ}
use mathlib.Core.List.{List, [], ◌∷◌}
use mathlib.Core.Path.{◌≡◌, refl}
use lib.ListN.{length, get_or}
use native.Mathlib.Omega.{arith}

-- it is its five elements
pub five_whole : (l : List ℕ) → length l ≡ 5 → get_or l 0 0 ∷ get_or l 1 0 ∷ get_or l 2 0 ∷ get_or l 3 0 ∷ get_or l 4 0 ∷ [] ≡ l
five_whole [] h = absurd (omega arith)
five_whole (a ∷ []) h = absurd (omega arith)
five_whole (a ∷ b ∷ []) h = absurd (omega arith)
five_whole (a ∷ b ∷ c ∷ []) h = absurd (omega arith)
five_whole (a ∷ b ∷ c ∷ d ∷ []) h = absurd (omega arith)
five_whole (a ∷ b ∷ c ∷ d ∷ e ∷ []) h = refl
five_whole (a ∷ b ∷ c ∷ d ∷ e ∷ f ∷ l) h = absurd (omega arith)
