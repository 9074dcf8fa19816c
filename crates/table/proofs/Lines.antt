-- What `printed_of` says in document 01's words: of a sheet that is stopped, `refused N`; of an accepted one, the header and for every
-- query the line of its answer, where the answer's numbers fit the 32 bits that they have in the output; and in document 02's, L1: the
-- line ends with left, "a minus sign before a negative one"; L10: after the rows stands the line of the answers' totals.
-- Assumes nothing.
use mathlib.Core.Path.{◌≡◌, refl, ap, ap₂, ◌∙◌}
use mathlib.Core.Bool.{Bool, true, false, cond}
use mathlib.Core.List.{List, [], ◌∷◌, ◌++◌}
use Prim.Native.Nat.{ℕ, zero, suc, ◌+◌, ◌-◌, ◌*◌, ◌<◌}
use native.Mathlib.Omega.{arith}
use lib.Dec.{ltb}
use lib.IntN.{ℤ, pos, negsuc}
use lib.ListN.{length}
use Rattle.little_endian.specs.Bytes.{u32_at}
use Rattle.score_state.specs.Answer.{Answer, status_of}
use Rattle.points_left.specs.Left.{signed_of}
use Rattle.answers.specs.Answers.{value}
use Rattle.text.specs.Text.{decimal_text, signed_text, refused_text}
use Rattle.totals.specs.Totals.{totals_of}
use Rattle.total_text.specs.TotalText.{total_text}
use Rattle.lists.specs.Lists.{joined}
use Rattle.lists.proofs.Joined.{same_pieces}
use Rattle.sheets_laws.specs.Sheets.{sheet_stop, query_count, answer_at, sheet_of}
use Rattle.sheets_laws.proofs.Laws.{refused-answer, accepted-answer, row-status, row-value}
use Rattle.sheets_laws.proofs.Totals.{totals-answers}
use Rattle.row_text.specs.RowText.{field_text, fields_text, left_text, row_text}
use Rattle.table.specs.Table.{header_text, table_text, answer_text, room, printed_of}

-- an integer as text
abbrev pub integer_text : ℤ → List ℕ
integer_text (pos n) = decimal_text n
integer_text (negsuc n) = 45 ∷ decimal_text (suc n)

signed_shown : (w : ℕ) → w < 4294967296 → signed_text w ≡ integer_text (signed_of w)
unfolding signed_text
signed_shown w h = go (ltb w 2147483648)
  where
    go : (t : Bool) → cond t (decimal_text w) (45 ∷ decimal_text (4294967296 - w)) ≡ integer_text (cond t (pos w) (negsuc (4294967295 - w)))
    go true = refl
    go false = let e : 4294967296 - w ≡ suc (4294967295 - w) = omega arith in ap (λ (n : ℕ). 45 ∷ decimal_text n) e

-- the k-th field of an answer: its status, then its values; left, the last, by its bits
abbrev pub field : Answer (List ℕ) → ℕ → ℕ
field a zero = status_of a
field a (suc k) = value a k

abbrev pub Fits32 : Answer (List ℕ) → Type 0
Fits32 a = (k : ℕ) → k < 9 → field a k < 4294967296

-- the line of query i with this answer
unfoldable pub line_of : ℕ → Answer (List ℕ) → List ℕ
line_of i a = decimal_text i ++ joined (λ k. 32 ∷ decimal_text (field a k)) 8 ++ (32 ∷ integer_text (signed_of (field a 8))) ++ (10 ∷ [])

module _ (s : List ℕ) where
  pub printed-refused : 0 < sheet_stop s (length room) → printed_of s ≡ refused_text (sheet_stop s (length room))
  unfolding printed_of answer_text
  printed-refused h = rw (refused-answer s room h)

  module _ (ok : sheet_stop s (length room) ≡ 0) where
    module _ (i : ℕ) (l : i < query_count s) (fits : Fits32 (answer_at s i)) where
      one_field : (k : ℕ) → k < 9 → u32_at (sheet_of s room).bytes (36 * i + 4 * k) ≡ field (answer_at s i) k
      one_field zero h = let e : 36 * i + 4 * 0 ≡ 36 * i = omega arith in ap (u32_at (sheet_of s room).bytes) e ∙ row-status s room ok i l (fits 0 h)
      one_field (suc k) h =
          let e : 36 * i + 4 * suc k ≡ 36 * i + (4 + 4 * k) = omega arith in
          ap (u32_at (sheet_of s room).bytes) e ∙ row-value s room ok i k l (omega arith) (fits (suc k) h)

      one_line : row_text (sheet_of s room).bytes i ≡ line_of i (answer_at s i)
      unfolding row_text fields_text left_text line_of
      one_line =
          let e =
          same_pieces (field_text (sheet_of s room).bytes (36 * i)) (λ k. 32 ∷ decimal_text (field (answer_at s i) k)) 8
          (λ k h. unfold field_text in ap (λ (n : ℕ). 32 ∷ decimal_text n) (one_field k (omega arith))) in
          ap₂ (λ (xs ys : List ℕ). decimal_text i ++ xs ++ (32 ∷ ys) ++ (10 ∷ [])) e
          (ap signed_text (one_field 8 (omega arith)) ∙ signed_shown (field (answer_at s i) 8) (fits 8 (omega arith)))

    pub printed_table
        : ((i : ℕ) → i < query_count s → Fits32 (answer_at s i))
        → printed_of s ≡ header_text ++ joined (λ i. line_of i (answer_at s i)) (query_count s) ++ total_text (totals_of (answer_at s) (query_count s))
    unfolding printed_of answer_text table_text
    printed_table fits =
        rw (accepted-answer s room ok)
        (ap₂ (λ (xs ts : List ℕ). header_text ++ xs ++ total_text ts)
        (same_pieces (row_text (sheet_of s room).bytes) (λ i. line_of i (answer_at s i)) (query_count s) (λ i l. one_line i l (fits i l)))
        (totals-answers s room ok (λ i j l h. fits i l (suc j) (omega arith))))
