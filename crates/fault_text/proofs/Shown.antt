-- A byte more of a word that is shown.
-- Assumes nothing.
use mathlib.Core.Path.{◌≡◌, refl, ap}
use mathlib.Core.List.{List, [], ◌∷◌, ◌++◌}
use Prim.Native.Nat.{ℕ, ◌+◌, ◌<◌}
use native.Mathlib.Numerals.{add-one}
use lib.ListN.{length, take, get_or}
use lib.Seq.{take-suc, take-length}
use Rattle.fault_text.specs.FaultText.{shown_byte, shown}

shown-append : (a b : List ℕ) → shown (a ++ b) ≡ shown a ++ shown b
unfolding shown
shown-append [] b = refl
shown-append (c ∷ a) b = ap (λ (l : List ℕ). shown_byte c ∷ l) (shown-append a b)

pub shown_next : (w : List ℕ) (i : ℕ) → i < length w → shown (take (i + 1) w) ≡ shown (take i w) ++ (shown_byte (get_or w i 0) ∷ [])
unfolding shown
shown_next w i h = rw (add-one i, take-suc w i 0 h) (shown-append (take i w) (get_or w i 0 ∷ []))

pub shown-all : (w : List ℕ) (i : ℕ) → i ≡ length w → shown (take i w) ≡ shown w
shown-all w i e = rw e (ap shown (take-length w))
