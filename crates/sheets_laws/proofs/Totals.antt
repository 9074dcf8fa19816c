-- Document 02, L10, of what a sheet answers: the totals of the answers written are those of the rows' answers, whose counts fit the 32 bits
-- that they have in the output. Assumes nothing.
use Prim.Native.Nat.{ℕ, ◌<◌}
use mathlib.Core.Path.{◌≡◌, refl, sym, ap, ◌∙◌}
use mathlib.Core.Bool.{Bool, true, false}
use mathlib.Core.List.{List}
use native.Mathlib.Omega.{arith}
use borrow.Author.Tests.{eqb-true, eqb-false}
use lib.Dec.{eqb}
use lib.ListN.{length, get_or}
use Rattle.score_state.specs.Answer.{Answer, worked, refused, status_of}
use Rattle.answers.specs.Answers.{value, written}
use Rattle.answers.proofs.Written.{eight-at}
use Rattle.totals.specs.Totals.{totals_of, totals_over}
use Rattle.totals.proofs.Same.{same-totals}
use Rattle.sheets_laws.specs.Sheets.{query_count, sheet_stop, answer_at, sheet_of}
use Rattle.sheets_laws.proofs.Laws.{row-value}
use Rattle.sheets_laws.proofs.Demand3.{status_back, values_back}

-- a refused answer has no values
no_value : (a : Answer (List ℕ)) (j : ℕ) → (status_of a ≡ 0 → ⊥) → value a j ≡ 0
no_value (worked xs) j h = absurd (h refl)
no_value (refused n) j h = refl

module _ (s out : List ℕ) (ok : sheet_stop s (length out) ≡ 0) where
  abbrev bytes : List ℕ
  bytes = (sheet_of s out).bytes

  value_written : (k j : ℕ) → k < query_count s → j < 8 → value (answer_at s k) j < 4294967296 → value (written bytes k) j ≡ value (answer_at s k) j
  value_written k j l m h = go (eqb (status_of (answer_at s k)) 0) refl
    where
      go : (b : Bool) → eqb (status_of (answer_at s k)) 0 ≡ b → value (written bytes k) j ≡ value (answer_at s k) j
      go true e =
          ap (λ (vs : List ℕ). get_or vs j 0) (values_back s out ok k l (eqb-true (status_of (answer_at s k)) 0 e))
          ∙ eight-at bytes k j m
          ∙ row-value s out ok k j l m h
      go false e =
          let stopped : status_of (answer_at s k) ≡ 0 → ⊥ = eqb-false (status_of (answer_at s k)) 0 e in
          no_value (written bytes k) j (λ z. stopped (sym (status_back s out ok k l) ∙ z)) ∙ sym (no_value (answer_at s k) j stopped)

  pub totals-answers
      : ((k j : ℕ) → k < query_count s → j < 6 → value (answer_at s k) j < 4294967296) → totals_over bytes (query_count s) ≡ totals_of (answer_at s) (query_count s)
  totals-answers fits =
      same-totals (written bytes) (answer_at s) (query_count s) (λ k l. status_back s out ok k l) (λ k j l m. value_written k j l (omega arith) (fits k j l m))
