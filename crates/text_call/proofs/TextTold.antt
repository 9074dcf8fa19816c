-- `text_told` from what is answered.
-- Assumes nothing.
use mathlib.Core.Path.{◌≡◌, subst}
use mathlib.Core.List.{List, ◌++◌}
use Prim.Native.Nat.{ℕ, ◌≤◌}
use native.Mathlib.Omega.{arith}
use lib.ListN.{length, drop}
use borrow.Author.Tests.{lt-ltb, le-ltb}
use Rattle.typed_call.specs.Told.{lent_by}
use Rattle.std.specs.Prelude.{Result}
use Rattle.typed_text.specs.SheetText.{TextAnswer, told_of, Says, sheet_text}
use Rattle.typed_text.specs.declared.TextError.{TextError}
use Rattle.text_call.specs.TextTold.{status_of, numbers_of, text_told}

module _ (sheet out told : List ℕ) where
  pub too_few : length told ≤ 0 → lent_by 5 out told ≡ text_told sheet out told
  unfolding text_told
  too_few h = rw (lt-ltb (length told) 1 (omega arith))

  -- an answer a of the code, told as s
  pub told_by
      : (a : Result ℕ TextError) (s : TextAnswer) (o : List ℕ) → 1 ≤ length told → Says (sheet_text sheet out) a o → told_of a ≡ s
      → lent_by (status_of s) o (numbers_of s ++ drop (length (numbers_of s)) told) ≡ text_told sheet out told
  unfolding text_told
  told_by a s o h e k = subst (λ (z : TextAnswer). lent_by (status_of z) o (numbers_of z ++ drop (length (numbers_of z)) told) ≡ text_told sheet out told) k by_answer
    where
      r : TextAnswer
      r = told_of a

      by_answer : lent_by (status_of r) o (numbers_of r ++ drop (length (numbers_of r)) told) ≡ text_told sheet out told
      by_answer = rw (le-ltb (length told) 1 h) (λ i. lent_by (status_of (e.answers i)) (e.holds i) (numbers_of (e.answers i) ++ drop (length (numbers_of (e.answers i))) told))
