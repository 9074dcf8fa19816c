-- The lines of a text stand inside it.
-- Assumes nothing.
use mathlib.Core.List.{List, [], ◌∷◌}
use mathlib.Core.Bool.{Bool, true, false}
use Prim.Native.Nat.{ℕ, ◌+◌, ◌≤◌}
use native.Mathlib.Omega.{arith}
use lib.Dec.{eqb}
use lib.ListN.{length, take, length-take}
use Rattle.words.specs.Lines.{Part, line_size, lines_from, lines}

-- parts that end at n or before
pub data Inside (n : ℕ) : List Part → Type 0 where
  done : Inside n []
  more : {p : Part} {ps : List Part} → p.at + length p.bytes ≤ n → Inside n ps → Inside n (p ∷ ps)

lines_inside : (n : ℕ) (s : List ℕ) (i : ℕ) (begins : Bool) → i + length s ≤ n → Inside n (lines_from i begins s)
unfolding lines_from
lines_inside n [] i begins h = done
lines_inside n (b ∷ s) i true h =
    let z : length (take (line_size (b ∷ s)) (b ∷ s)) ≤ length (b ∷ s) = simp length-take (omega arith) in
    more (omega arith) (lines_inside n s (i + 1) (eqb b 10) (omega arith))
lines_inside n (b ∷ s) i false h = lines_inside n s (i + 1) (eqb b 10) (omega arith)

lines_few : (s : List ℕ) (i : ℕ) (begins : Bool) → length (lines_from i begins s) ≤ length s
unfolding lines_from
lines_few [] i begins = omega arith
lines_few (b ∷ s) i true = let z = lines_few s (i + 1) (eqb b 10) in omega arith
lines_few (b ∷ s) i false = let z = lines_few s (i + 1) (eqb b 10) in omega arith

-- there are no more of them than bytes
pub text_few : (s : List ℕ) → length (lines s) ≤ length s
unfolding lines
text_few s = lines_few s 0 true

pub text_inside : (s : List ℕ) → Inside (length s) (lines s)
unfolding lines
text_inside s = lines_inside (length s) s 0 true (omega arith)

pub first_inside : (n : ℕ) (p : Part) (ps : List Part) → Inside n (p ∷ ps) → (p.at + length p.bytes ≤ n) × Inside n ps
first_inside n p ps (more h i) = (h, i)
