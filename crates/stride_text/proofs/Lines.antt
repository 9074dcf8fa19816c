-- Laws of a line: its first number, one number more, all of them.
-- Assumes nothing.
use mathlib.Core.Path.{◌≡◌, refl, sym, ap, ◌∙◌}
use mathlib.Core.List.{List, [], ◌∷◌, ◌++◌, append_assoc, append-nil}
use Prim.Native.Nat.{ℕ, zero, suc, ◌+◌, ◌≤◌, ◌<◌}
use native.Mathlib.Numerals.{add-one}
use native.Mathlib.Omega.{arith}
use lib.ListN.{length, get_or, take}
use lib.Seq.{take-suc, take-length, length-take-le}
use Rattle.lists.specs.Lists.{joined}
use Rattle.text.specs.Text.{decimal_text}
use Rattle.stride_text.specs.StrideText.{spaced, line_text}

spaced-first : (l : List ℕ) → 1 ≤ length l → decimal_text (get_or l 0 0) ≡ spaced (take 1 l)
unfolding spaced
spaced-first [] h = absurd (omega arith)
spaced-first (x ∷ xs) h = refl

spaced-more : (xs : List ℕ) (y : ℕ) → 1 ≤ length xs → spaced xs ++ (32 ∷ decimal_text y) ≡ spaced (xs ++ (y ∷ []))
unfolding spaced
spaced-more [] y h = absurd (omega arith)
spaced-more (x ∷ []) y h = refl
spaced-more (x ∷ (z ∷ xs)) y h =
    append_assoc (decimal_text x) (32 ∷ spaced (z ∷ xs)) (32 ∷ decimal_text y)
    ∙ ap (λ (t : List ℕ). decimal_text x ++ (32 ∷ t)) (spaced-more (z ∷ xs) y (omega arith))

spaced_next : (l : List ℕ) (k : ℕ) → 1 ≤ k → k < length l → spaced (take k l) ++ (32 ∷ decimal_text (get_or l k 0)) ≡ spaced (take (k + 1) l)
spaced_next l k h j =
    let e : length (take k l) ≡ k = length-take-le k l (omega arith) in
    spaced-more (take k l) (get_or l k 0) (omega arith) ∙ ap spaced (sym (take-suc l k 0 j) ∙ ap (λ (n : ℕ). take n l) (sym (add-one k)))

-- a space and the number after the j-th
abbrev pub more : List ℕ → ℕ → List ℕ
more l j = 32 ∷ decimal_text (get_or l (j + 1) 0)

spaced-joined : (l : List ℕ) (k : ℕ) → k < length l → decimal_text (get_or l 0 0) ++ joined (more l) k ≡ spaced (take (k + 1) l)
spaced-joined l zero h = append-nil (decimal_text (get_or l 0 0)) ∙ spaced-first l (omega arith)
spaced-joined l (suc k) h =
    let e : suc k ≡ k + 1 = omega arith in
    sym (append_assoc (decimal_text (get_or l 0 0)) (joined (more l) k) (more l k))
    ∙ ap (λ (t : List ℕ). t ++ more l k) (spaced-joined l k (omega arith))
    ∙ spaced_next l (k + 1) (omega arith) (omega arith)
    ∙ ap (λ (n : ℕ). spaced (take (n + 1) l)) (sym e)

-- the first number, the others with a space before each, and the end: a line
pub line_made : (l : List ℕ) (k : ℕ) → k + 1 ≡ length l → decimal_text (get_or l 0 0) ++ joined (more l) k ++ (10 ∷ []) ≡ line_text l
unfolding line_text
line_made l k e = ap (λ (t : List ℕ). t ++ (10 ∷ [])) (spaced-joined l k (omega arith) ∙ ap (λ (m : ℕ). spaced (take m l)) e ∙ ap spaced (take-length l))
