-- The answers of a sheet's rows, 36 bytes each, one after the other: written, and found again.
-- Assumes nothing.
use mathlib.Core.Path.{◌≡◌, refl, ◌∙◌}
use mathlib.Core.List.{List}
use Prim.Native.Nat.{ℕ, ◌+◌, ◌-◌, ◌*◌, ◌≤◌, ◌<◌}
use native.Mathlib.Omega.{arith}
use lib.ListN.{length, take, drop, length-append, length-drop}
use lib.Seq.{drop_at}
use Rattle.lists.specs.Lists.{put, joined}
use Rattle.lists.proofs.Joined.{length-joined, next_piece, piece}
use Rattle.score_state.specs.Answer.{Answer}
use Rattle.inspect.specs.declared.Chart.{Chart}
use Rattle.records.specs.Records.{row_at}
use Rattle.records.specs.declared.Row.{Row}
use Rattle.weighting.specs.declared.Scoring.{Scoring}
use Rattle.rows.specs.Rows.{row_answer}
use Rattle.answers.specs.Answers.{answer_bytes}
use Rattle.answers.proofs.Written.{length-answer}
use Rattle.sheets_laws.specs.Sheets.{row_of, rows_written}

module _ (s : List ℕ) (sc : Scoring) (charts : List Chart) (base : ℕ) (out : List ℕ) where
  pub written_none : out ≡ rows_written s sc charts base 0 out
  unfolding rows_written
  written_none = refl

  -- a row more
  pub written_next : (i : ℕ) → put (rows_written s sc charts base i out) (36 * i) (answer_bytes (row_answer sc (row_of s base i) charts)) ≡ rows_written s sc charts base (i + 1) out
  unfolding rows_written
  written_next i = next_piece 36 (λ (j : ℕ). answer_bytes (row_answer sc (row_of s base j) charts)) (λ j. length-answer (row_answer sc (row_of s base j) charts)) out i

  -- the same from the facts of the calls: the row that is read, its answer, and the output with the answer put
  pub Written-step
      : (i : ℕ) (row : Row) (a : Answer (List ℕ)) (o o' : List ℕ) → o ≡ rows_written s sc charts base i out → row ≡ row_at s (base + 48 * i) → a ≡ row_answer sc row charts
      → o' ≡ put o (36 * i) (answer_bytes a) → o' ≡ rows_written s sc charts base (i + 1) out
  unfolding row_of
  Written-step i row a o o' eo er ea p = p ∙ rw (eo, ea, er) (written_next i)

  pub written-part : (n i : ℕ) → i < n → take 36 (drop (36 * i) (rows_written s sc charts base n out)) ≡ answer_bytes (row_answer sc (row_of s base i) charts)
  unfolding rows_written
  written-part n i l = piece 36 (λ (j : ℕ). answer_bytes (row_answer sc (row_of s base j) charts)) (λ j. length-answer (row_answer sc (row_of s base j) charts)) n i (drop (36 * n) out) l

  pub length-written : (n : ℕ) → 36 * n ≤ length out → length (rows_written s sc charts base n out) ≡ length out
  unfolding rows_written
  length-written n h =
      let f : ℕ → List ℕ = λ (j : ℕ). answer_bytes (row_answer sc (row_of s base j) charts) in
      let l : length (joined f n) ≡ 36 * n = length-joined 36 f (λ j. length-answer (row_answer sc (row_of s base j) charts)) n in
      let d : length (drop (36 * n) out) ≡ length out - 36 * n = length-drop (36 * n) out in
      length-append (joined f n) (drop (36 * n) out) ∙ omega arith

  -- bytes past the last answer stay
  pub written_rest : (n : ℕ) → drop (36 * n) (rows_written s sc charts base n out) ≡ drop (36 * n) out
  unfolding rows_written
  written_rest n =
      drop_at (joined (λ (j : ℕ). answer_bytes (row_answer sc (row_of s base j) charts)) n) (drop (36 * n) out) (36 * n)
      (length-joined 36 (λ (j : ℕ). answer_bytes (row_answer sc (row_of s base j) charts)) (λ j. length-answer (row_answer sc (row_of s base j) charts)) n)
