-- closest.rs: its loops `for v in lo..=hi` and its running bests (`best_dist`, `best_result`), as lists and a fold.
use Rattle.std.specs.Prelude.{ℕ, zero, suc, ◌-◌, min, Bool, true, false, cond, List, [], ◌∷◌, ◌++◌, ltb}
use Rattle.std.proofs.Math.Option.{Option, none, some}

-- n values from k on
unfoldable pub from : ℕ → ℕ → List ℕ
from k zero = []
from k (suc n) = k ∷ from (suc k) n

-- lo..=hi
unfoldable pub range : ℕ → ℕ → List ℕ
range lo hi = from lo (suc hi - lo)

-- the first two of them
unfoldable pub first_two : ℕ → ℕ → List ℕ
first_two lo hi = range lo (min hi (suc lo))

-- the body of a loop at each value, in order
unfoldable pub each : {A B : Type 0} → List A → (A → List B) → List B
each [] f = []
each (x ∷ xs) f = f x ++ each xs f

-- a candidate, and the best so far
pub record Kept (K A : Type 0) : Type 0 where
  pub dist : K
  pub result : A

-- `if dist < best_dist { best_dist = dist; best = result; }`
unfoldable pub offer : {K A : Type 0} → (K → K → Bool) → Kept K A → Kept K A → Kept K A
offer less t best = cond (less t.dist best.dist) t best

-- candidates offered one after the other: the first at the least distance stays
unfoldable pub scan : {K A : Type 0} → (K → K → Bool) → List (Kept K A) → Kept K A → Kept K A
scan less [] best = best
scan less (t ∷ ts) best = scan less ts (offer less t best)

-- `<` of whole distances: none is the f64::MAX that such a search starts with, which no whole distance reaches
unfoldable pub nearer : Option ℕ → Option ℕ → Bool
nearer none e = false
nearer (some d) none = true
nearer (some d) (some e) = ltb d e
