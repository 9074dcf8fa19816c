-- Document 02, L10: "After the rows, `sheet` prints `total`, the number of rows with status 0, and the sums of their six counts. The
-- library call that works a sheet carries these seven numbers in its result. They must equal the count and sums taken over the answers
-- written, for every accepted sheet, a sheet without queries included, which prints seven zeros after the word. .. Refused rows add
-- nothing to it."
use Rattle.std.specs.Prelude.{cond, List, [], ◌∷◌, ℕ, zero, suc, ◌+◌, ◌≤◌, eqb}
use Rattle.score_state.specs.Answer.{Answer, status_of}
use Rattle.answers.specs.Answers.{value, written}
use Rattle.totals.specs.declared.Totals.{Totals}

-- f 0 + .. + f (n - 1)
abbrev pub sum_to : (ℕ → ℕ) → ℕ → ℕ
sum_to f zero = 0
sum_to f (suc n) = sum_to f n + f n

-- of the first n of some answers: "the number of rows with status 0"
abbrev pub rows_worked : (ℕ → Answer (List ℕ)) → ℕ → ℕ
rows_worked answers n = sum_to (λ k. cond (eqb (status_of (answers k)) 0) 1 0) n

-- "the sums of their six counts": of count j, from n320 (0) to misses (5). A refused row has no counts: its `value` is 0
abbrev pub sum_of : (ℕ → Answer (List ℕ)) → ℕ → ℕ → ℕ
sum_of answers n j = sum_to (λ k. value (answers k) j) n

-- "these seven numbers"
unfoldable pub totals_of : (ℕ → Answer (List ℕ)) → ℕ → List ℕ
totals_of answers n =
    rows_worked answers n ∷ sum_of answers n 0 ∷ sum_of answers n 1 ∷ sum_of answers n 2 ∷ sum_of answers n 3 ∷ sum_of answers n 4 ∷ sum_of answers n 5 ∷ []

-- "taken over the answers written": the first n that an output holds
abbrev pub totals_over : List ℕ → ℕ → List ℕ
totals_over out n = totals_of (written out) n

-- the code's seven numbers in that order
abbrev pub seven_of : Totals → List ℕ
seven_of t = t.rows ∷ t.n320 ∷ t.n300 ∷ t.n200 ∷ t.n100 ∷ t.n50 ∷ t.misses ∷ []

-- none of them is larger
pub record Within (most : ℕ) (t : Totals) : Type 0 where
  pub rows : t.rows ≤ most
  pub n320 : t.n320 ≤ most
  pub n300 : t.n300 ≤ most
  pub n200 : t.n200 ≤ most
  pub n100 : t.n100 ≤ most
  pub n50 : t.n50 ≤ most
  pub misses : t.misses ≤ most
